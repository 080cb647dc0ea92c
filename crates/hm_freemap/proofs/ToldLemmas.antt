-- Facts of three maps, where they are told.
use Rattle.std.proofs.Common.{◌≡◌, ℕ, List, ap, subst, Some, None, Result, Ok, Err}
use Rattle.std.specs.Prelude.{Option, IfSome, OnOk}
use Rattle.hm_types.specs.Told.{BothTell}
use Rattle.hm_types.specs.declared.fault.Fault.{Fault}
use Rattle.hm_fields.specs.Pages.{PageMap, page_in}
use Rattle.hm_freemap.specs.Extents.{Moves}
use Rattle.hm_freemap.specs.Places.{page_of}
use Rattle.hm_freemap.specs.Stand.{Maps, WhereTold, EntryPut, entry_page}
use Rattle.hm_freemap.specs.declared.entry.Entry.{Entry}

pub where_all : (c f u : Option PageMap) (P : Maps → Type 0) → ((maps : Maps) → P maps) → WhereTold c f u P
where_all None f u P all = tt
where_all (Some c) None u P all = tt
where_all (Some c) (Some f) None P all = tt
where_all (Some c) (Some f) (Some u) P all = all (record { committed = c; frozen = f; current = u })

pub where_map : (c f u : Option PageMap) (P Q : Maps → Type 0) → ((maps : Maps) → P maps → Q maps) → WhereTold c f u P → WhereTold c f u Q
where_map None f u P Q step p = tt
where_map (Some c) None u P Q step p = tt
where_map (Some c) (Some f) None P Q step p = tt
where_map (Some c) (Some f) (Some u) P Q step p = step (record { committed = c; frozen = f; current = u }) p

pub where_both : (c f u : Option PageMap) (P Q R : Maps → Type 0) → ((maps : Maps) → P maps → Q maps → R maps)
    → WhereTold c f u P → WhereTold c f u Q → WhereTold c f u R
where_both None f u P Q R step p q = tt
where_both (Some c) None u P Q R step p q = tt
where_both (Some c) (Some f) None P Q R step p q = tt
where_both (Some c) (Some f) (Some u) P Q R step p q = step (record { committed = c; frozen = f; current = u }) p q

-- the same facts of maps that are equal
pub where_at : (c f u c' f' u' : Option PageMap) (P : Maps → Type 0) → c' ≡ c → f' ≡ f → u' ≡ u → WhereTold c' f' u' P → WhereTold c f u P
where_at c f u c' f' u' P committed frozen current p = rw (← committed, ← frozen, ← current) p

-- what a put into the current map makes of it
pub told_moves : {T : Type 0} (c f old mid new : Option PageMap) (block : ℕ) (page : List ℕ) (next : Entry) (result : Result T Fault) → mid ≡ old
    → IfSome old (λ map. map (page_of block) ≡ Some page) → OnOk result (BothTell mid new (EntryPut block next))
    → OnOk result (Moves c f old new (λ maps now. EntryPut block next maps.current now × (entry_page maps.current block ≡ page)))
told_moves c f old mid new block page next (Err fault) same read put = tt
told_moves c f old mid new block page next (Ok x) same read put =
    by_told c f old new read (subst (λ (o : Option PageMap). BothTell o new (EntryPut block next)) same put) where
      by_told : (c f u new : Option PageMap) → IfSome u (λ map. map (page_of block) ≡ Some page) → BothTell u new (EntryPut block next)
          → Moves c f u new (λ maps now. EntryPut block next maps.current now × (entry_page maps.current block ≡ page))
      by_told None f u new read put = tt
      by_told (Some c) None u new read put = tt
      by_told (Some c) (Some f) None new read put = tt
      by_told (Some c) (Some f) (Some u) None read put = put
      by_told (Some c) (Some f) (Some u) (Some new) read put = (put, ap page_in read)

pub moves_map : (c f u new : Option PageMap) (R S : Maps → PageMap → Type 0) → ((maps : Maps) (now : PageMap) → R maps now → S maps now)
    → Moves c f u new R → Moves c f u new S
moves_map None f u new R S step moves = tt
moves_map (Some c) None u new R S step moves = tt
moves_map (Some c) (Some f) None new R S step moves = tt
moves_map (Some c) (Some f) (Some u) None R S step moves = moves
moves_map (Some c) (Some f) (Some u) (Some new) R S step moves = step (record { committed = c; frozen = f; current = u }) new moves

pub ok_moves : {T : Type 0} (c f u new : Option PageMap) (R S : Maps → PageMap → Type 0) (result : Result T Fault)
    → ((maps : Maps) (now : PageMap) → R maps now → S maps now) → OnOk result (Moves c f u new R) → OnOk result (Moves c f u new S)
ok_moves c f u new R S (Err fault) step moves = tt
ok_moves c f u new R S (Ok x) step moves = moves_map c f u new R S step moves
