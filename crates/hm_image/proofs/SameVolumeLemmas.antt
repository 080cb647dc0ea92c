-- Images that have the same freemap, and the same bytes wherever a tree refers to, are sound and stand for a volume
-- together, where the same header counts in both.
use Rattle.std.proofs.Common.{◌≡◌, ℕ, List, sym, ap, subst, ◌∙◌}
use Rattle.std.specs.List.{All}
use Rattle.hm_types.specs.Elements.{FullElement}
use Rattle.hm_types.specs.Hash.{name_hash}
use Rattle.hm_types.specs.References.{AreFew, IsPlaced, NoneOverlap, Reference}
use Rattle.hm_freemap.specs.Places.{page_of}
use Rattle.hm_freemap.specs.declared.entry.Entry.{Entry}
use Rattle.hm_header.specs.declared.header.Header.{Header}
use Rattle.hm_model.specs.Volume.{Volume}
use Rattle.hm_records.specs.KeysFit.{KeysFit}
use Rattle.hm_records.specs.Payload.{IsPayload}
use Rattle.hm_header.specs.OnDisk.{HasHeader}
use Rattle.hm_image.specs.Image.{elements_from, pages_of, references_from}
use Rattle.hm_image.specs.Same.{HasSameFreemap, HasSameTree}
use Rattle.hm_image.specs.Sound.{HasEntry, HasExtents, HasLayer2, HasPayloads, IsAmongPayloads, IsFilled, IsSoundBy, free_bytes_in}
use Rattle.hm_image.specs.StandFor.{StandFor}
use Rattle.hm_image.specs.Stands.{StandsFor}
use Rattle.hm_image.proofs.SameLemmas.{elements_same, plain_same, references_same, tree_same}

-- an entry of layer 2
entry_same : (old new : List ℕ) (block : ℕ) (e : Entry) → pages_of new (page_of block) ≡ pages_of old (page_of block)
    → HasEntry old block e → HasEntry new block e
entry_same old new block e same has = record { page = has.page; there = same ∙ has.there; spelled = has.spelled }

module _ (old new : List ℕ) (header : Header) (freemap : HasSameFreemap old new header.bigblocks) (same : HasSameTree old new header.root) where
  es_same : elements_from old header.root ≡ elements_from new header.root
  es_same = sym (elements_same old new header.root same)

  rs_same : references_from (pages_of old) header.root ≡ references_from (pages_of new) header.root
  rs_same = sym (references_same old new header.root same)

  payloads_same : HasPayloads old header → HasPayloads new header
  payloads_same has = record { each = subst (All IsPayload) es_same has.each; keys = subst (KeysFit name_hash) es_same has.keys }

  extents_same : (entries : ℕ → Entry) → HasExtents old header entries → HasExtents new header entries
  extents_same entries has = record {
    zones = subst (All IsAmongPayloads) (sym (plain_same old new header.root same)) has.zones;
    placed = subst (All (IsPlaced header.bigblocks)) rs_same has.placed;
    filled = subst (All (IsFilled entries)) rs_same has.filled;
    apart = subst NoneOverlap rs_same has.apart;
    few = subst AreFew rs_same has.few;
  }

  layer2_same : (entries : ℕ → Entry) → HasLayer2 old header entries → HasLayer2 new header entries
  layer2_same entries has = record {
    each = λ block few.
        let both = has.each block few in
        (entry_same old new block (entries block) (freemap.layer2 block few) both.0, both.1);
    appended = has.appended;
  }

  pub sound_same : (slot : ℕ) → HasHeader new header slot → IsSoundBy old header → IsSoundBy new header
  sound_same slot counts sound = record {
    slot = slot;
    entries = sound.entries;
    counts = counts;
    layer1 = λ i few. freemap.layer1 i few ∙ sound.layer1 i few;
    layer2 = layer2_same sound.entries sound.layer2;
    tree = tree_same old new header.root same sound.tree;
    payloads = payloads_same sound.payloads;
    extents = extents_same sound.entries sound.extents;
    free_bytes = λ block pool. sound.free_bytes block pool ∙ ap (λ (rs : List Reference). free_bytes_in rs block) rs_same;
  }

module _ (old new : List ℕ) (volume : Volume) (stands : StandsFor old volume) where
  pub stands_same : (slot : ℕ) → HasHeader new stands.header slot → HasSameFreemap old new stands.header.bigblocks
      → HasSameTree old new stands.header.root → StandsFor new volume
  stands_same slot counts freemap same =
      record {
        header = stands.header;
        sound = sound_same old new stands.header freemap same slot counts stands.sound;
        bigblocks = stands.bigblocks;
        last = stands.last;
        elements = subst (λ (es : List FullElement). StandFor es volume) (es_same old new stands.header freemap same) stands.elements;
      }
