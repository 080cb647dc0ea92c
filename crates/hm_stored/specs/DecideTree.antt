-- Whether a map of pages is a tree: decisions of the rules of elements, of nodes and of the tree, in that order.
use Rattle.std.specs.Prelude.{◌≡◌, ℕ, zero, suc, ◌+◌, ◌-◌, ◌%◌, ◌^◌, ◌<◌, ◌≤◌, ◌||◌, Bool, nat_eq, List, [], ◌∷◌, length, Option, None, Some, IsSome}
use Rattle.std.specs.Prelude.{IsTrue, is_some}
use Rattle.std.proofs.Common.{inl, inr, refl}
use Rattle.std.proofs.lemmas.Bool.{cases_lt}
use native.Mathlib.Decide.{ℕ_discrete, dec_le, dec_lt, map_dec}
use Rattle.hm_types.specs.Elements.{Key, key_cmp}
use Rattle.hm_types.specs.Offset.{IsOffset, IsZone, zone_of, volume_of, byte_of}
use Rattle.hm_types.specs.declared.limits.TheConstants.{BLOCK_BYTES, MOST_INNER_CHILDREN, MOST_LEAF_ELEMENTS, MOST_LEVELS, PAGE_BYTES}
use Rattle.hm_types.specs.declared.zone.TheConstants.{TREE_ZONE}
use Rattle.hm_fields.specs.Fields.{get}
use Rattle.hm_fields.specs.Pages.{PageMap, page_in}
use Rattle.hm_key.specs.Element.{FitsType, IsElement, IsInBlock, IsRecType, part_of, pfs_of}
use Rattle.hm_key.specs.Elements.{element_cmp, element_key}
use Rattle.hm_key.specs.Key.{IsBefore, IsFrom, key_of}
use Rattle.hm_key.specs.declared.base.Base.{Base}
use Rattle.hm_key.specs.declared.base.TheConstants.{BOUNDARY, ELEMENT}
use Rattle.hm_key.specs.declared.element.Element.{Element}
use Rattle.hm_key.specs.declared.rec_type.TheConstants.{INODE, FILE_BYTES, DIRECTORY_ENTRY, SOFTLINK_TARGET, PFS_RECORD, SNAPSHOT, INODE_PART, OTHER_PART}
use Rattle.hm_node.specs.Base.{base_cmp}
use Rattle.hm_node.specs.Head.{head_in}
use Rattle.hm_node.specs.Inner.{HasInnerFields, IsBound, IsChild, IsNodeOffset, boundaries}
use Rattle.hm_node.specs.Leaf.{IsPlaced, IsUpTo}
use Rattle.hm_node.specs.Node.{HasCount, HasFields, HasLevel, HasMirror, HasOrder, HasZeros, IsNode, SaysLevel, Spells, count_of, end_of, kind_of}
use Rattle.hm_node.specs.Node.{level_of, node_in, place_width}
use Rattle.hm_node.specs.Places.{IsZero, IsZeroOutside, place}
use Rattle.hm_node.specs.declared.inner.Child.{Child}
use Rattle.hm_node.specs.declared.inner.Inner.{Inner}
use Rattle.hm_node.specs.declared.node.Node.{Node}
use Rattle.hm_node.specs.declared.node.Node.TheVariants.{Leaf, Inner as inner_node}
use Rattle.hm_search.specs.Place.{BeginsAt, Fits, FitsBounds, FitsCount, FitsLevel, FitsMirror, IsInside, least_count, mirror_of}
use Rattle.hm_search.specs.Tree.{HasChildren, IsSoundTree, IsStoredWith, IsTreeWith, children_of, height_of, node_at, reaches, root_place}
use Rattle.hm_search.specs.declared.subtree.Parent.{Parent}
use Rattle.hm_search.specs.declared.subtree.Subtree.{Subtree}
use Rattle.hm_btree.specs.Space.{IsSpot}
use Rattle.hm_btree.specs.Tree.{IsTreeSpace}
use Rattle.hm_stored.specs.Decide.{dec_all, dec_and, dec_below, dec_each, dec_given, dec_if, dec_less, dec_not, dec_or, dec_sorted, dec_true}

-- of keys
same_key : (a b : Key) → a.localization ≡ b.localization → a.obj ≡ b.obj → a.rec_type ≡ b.rec_type → a.key ≡ b.key
    → a.create ≡ b.create → a ≡ b
same_key a b p q r s t i = record { localization = p i; obj = q i; rec_type = r i; key = s i; create = t i }

dec_key : Discrete Key
dec_key a b =
    dec_given (λ e. cc) (ℕ_discrete a.localization b.localization) λ localization.
    dec_given (λ e. cc) (ℕ_discrete a.obj b.obj) λ obj.
    dec_given (λ e. cc) (ℕ_discrete a.rec_type b.rec_type) λ rec_type.
    dec_given (λ e. cc) (ℕ_discrete a.key b.key) λ key.
    dec_given (λ e. cc) (ℕ_discrete a.create b.create) λ create.
    yes (same_key a b localization obj rec_type key create)

dec_before : (a b : Key) → Dec (IsBefore a b)
dec_before a b = dec_less (key_cmp a b)

dec_from : (a b : Key) → Dec (IsFrom a b)
dec_from a b = dec_not (dec_before b a)

-- of elements
dec_rec_type : (n : ℕ) → Dec (IsRecType n)
dec_rec_type n =
    dec_or (ℕ_discrete n INODE) (dec_or (ℕ_discrete n FILE_BYTES) (dec_or (ℕ_discrete n DIRECTORY_ENTRY)
    (dec_or (ℕ_discrete n SOFTLINK_TARGET) (dec_or (ℕ_discrete n PFS_RECORD) (ℕ_discrete n SNAPSHOT)))))

dec_in_block : (end len : ℕ) → Dec (IsInBlock end len)
dec_in_block end len =
    dec_given (λ h. h.some) (dec_le 1 len) λ some.
    dec_given (λ h. h.few) (dec_le len BLOCK_BYTES) λ few.
    dec_given (λ h. h.within) (dec_le len end) λ within.
    dec_given (λ h. h.aligned) (ℕ_discrete ((end - len) % BLOCK_BYTES) 0) λ aligned.
    yes (record { some = some; few = few; within = within; aligned = aligned })

dec_fits_type : (e : Element) → Dec (FitsType e)
dec_fits_type e =
    let is = λ (n : ℕ). ℕ_discrete e.base.rec_type n in
    let part = λ (n : ℕ). ℕ_discrete (part_of e.base.localization) n in
    let key = λ (n : ℕ). ℕ_discrete e.base.key n in
    let first = ℕ_discrete e.base.obj.0 1 in
    dec_given (λ h. h.known) (dec_rec_type e.base.rec_type) λ known.
    dec_given (λ h. h.inode_part) (dec_if (is INODE) (part INODE_PART)) λ inode_part.
    dec_given (λ h. h.other_part) (dec_if (dec_not (is INODE)) (part OTHER_PART)) λ other_part.
    dec_given (λ h. h.inode) (dec_if (is INODE) (key 0)) λ inode.
    dec_given (λ h. h.target) (dec_if (is SOFTLINK_TARGET) (key 0)) λ target.
    dec_given (λ h. h.file_bytes) (dec_if (is FILE_BYTES) (dec_in_block e.base.key e.len)) λ file_bytes.
    dec_given (λ h. h.pfs_object) (dec_if (is PFS_RECORD) first) λ pfs_object.
    dec_given (λ h. h.snapshot_object) (dec_if (is SNAPSHOT) first) λ snapshot_object.
    dec_given (λ h. h.pfs_number) (dec_if (is PFS_RECORD) (key (pfs_of e.base.localization))) λ pfs_number.
    yes (record {
      known = known;
      inode_part = inode_part;
      other_part = other_part;
      inode = inode;
      target = target;
      file_bytes = file_bytes;
      pfs_object = pfs_object;
      snapshot_object = snapshot_object;
      pfs_number = pfs_number;
    })

dec_element : (e : Element) → Dec (IsElement e)
dec_element e =
    dec_given (λ h. h.made) (dec_lt 0 e.base.create) λ made.
    dec_given (λ h. h.closed) (dec_or (ℕ_discrete e.base.delete 0) (dec_lt e.base.create e.base.delete)) λ closed.
    dec_given (λ h. h.obj_type) (dec_and (dec_le 1 e.base.obj_type) (dec_le e.base.obj_type 4)) λ obj_type.
    dec_given (λ h. h.btype) (ℕ_discrete e.base.btype ELEMENT) λ btype.
    dec_given (λ h. h.fits) (dec_fits_type e) λ fits.
    yes (record { made = made; closed = closed; obj_type = obj_type; btype = btype; fits = fits })

-- of offsets
dec_zone : (zone : ℕ) → Dec (IsZone zone)
dec_zone zone =
    dec_or (dec_and (dec_le 1 zone) (dec_le zone 4))
    (dec_or (dec_and (dec_le 8 zone) (dec_le zone 11)) (ℕ_discrete zone 15))

dec_offset : (raw : ℕ) → Dec (IsOffset raw)
dec_offset raw = dec_and (dec_zone (zone_of raw)) (ℕ_discrete (volume_of raw) 0)

dec_node_offset : (at : ℕ) → Dec (IsNodeOffset at)
dec_node_offset at =
    dec_given (λ h. h.offset) (dec_offset at) λ offset.
    dec_given (λ h. h.zone) (ℕ_discrete (zone_of at) TREE_ZONE) λ zone.
    dec_given (λ h. h.aligned) (ℕ_discrete (byte_of at % PAGE_BYTES) 0) λ aligned.
    yes (record { offset = offset; zone = zone; aligned = aligned })

dec_spot : (at : ℕ) → Dec (IsSpot at)
dec_spot at =
    dec_given (λ h. h.node) (dec_node_offset at) λ node.
    dec_given (λ h. h.below) (dec_lt (byte_of at) (2 ^ 43)) λ below.
    yes (record { node = node; below = below })

-- of what stands in a leaf
dec_placed : (e : Element) → Dec (IsPlaced e)
dec_placed e =
    dec_given (λ h. h.element) (dec_element e) λ element.
    dec_given (λ h. h.payload) (dec_offset e.payload) λ payload.
    yes (record { element = element; payload = payload })

dec_ids_up_to : (mirror : ℕ) (e : Element) → Dec (IsUpTo mirror e)
dec_ids_up_to mirror e =
    dec_given (λ h. h.create) (dec_le e.base.create mirror) λ create.
    dec_given (λ h. h.delete) (dec_le e.base.delete mirror) λ delete.
    yes (record { create = create; delete = delete })

-- of what stands in an inner node
dec_bound : (base : Base) → Dec (IsBound base)
dec_bound base =
    dec_given (λ h. h.not_closed) (ℕ_discrete base.delete 0) λ not_closed.
    dec_given (λ h. h.no_kind) (ℕ_discrete base.obj_type 0) λ no_kind.
    dec_given (λ h. h.btype) (ℕ_discrete base.btype BOUNDARY) λ btype.
    yes (record { key = refl; not_closed = not_closed; no_kind = no_kind; btype = btype })

dec_child : (c : Child) → Dec (IsChild c)
dec_child c =
    dec_given (λ h. h.left) (dec_bound c.left) λ left.
    dec_given (λ h. h.child) (dec_node_offset c.child) λ child.
    yes (record { left = left; child = child })

dec_inner_fields : (inner : Inner) → Dec (HasInnerFields inner)
dec_inner_fields inner =
    dec_given (λ h. h.children) (dec_all dec_child inner.places.items) λ children.
    dec_given (λ h. h.right) (dec_bound inner.right) λ right.
    yes (record { children = children; right = right })

-- of nodes
dec_level : (node : Node) → Dec (HasLevel node)
dec_level (Leaf leaf) = yes tt
dec_level (inner_node inner) = dec_and (dec_le 2 inner.level) (dec_le inner.level MOST_LEVELS)

dec_count : (node : Node) → Dec (HasCount node)
dec_count (Leaf leaf) = dec_le (length leaf.places.items) MOST_LEAF_ELEMENTS
dec_count (inner_node inner) =
    dec_and (dec_le 1 (length inner.places.items)) (dec_le (length inner.places.items) MOST_INNER_CHILDREN)

dec_order : (node : Node) → Dec (HasOrder node)
dec_order (Leaf leaf) = dec_sorted element_cmp leaf.places.items
dec_order (inner_node inner) = dec_sorted base_cmp (boundaries inner)

dec_fields : (node : Node) → Dec (HasFields node)
dec_fields (Leaf leaf) = dec_all dec_placed leaf.places.items
dec_fields (inner_node inner) = dec_inner_fields inner

dec_mirror : (node : Node) → Dec (HasMirror node)
dec_mirror (Leaf leaf) = dec_all (dec_ids_up_to leaf.mirror) leaf.places.items
dec_mirror (inner_node inner) = dec_all (λ (c : Child). dec_le c.mirror inner.mirror) inner.places.items

dec_node : (node : Node) → Dec (IsNode node)
dec_node node =
    dec_given (λ h. h.level) (dec_level node) λ level.
    dec_given (λ h. h.count) (dec_count node) λ count.
    dec_given (λ h. h.order) (dec_order node) λ order.
    dec_given (λ h. h.fields) (dec_fields node) λ fields.
    dec_given (λ h. h.mirror) (dec_mirror node) λ mirror.
    yes (record { level = level; count = count; order = order; fields = fields; mirror = mirror })

-- of the page that spells a node
dec_zero : (page : List ℕ) (from to : ℕ) → Dec (IsZero page from to)
dec_zero page from to =
    map_dec (λ h. record { each = λ k le lt. h k lt le }) (λ h k lt le. h.each k le lt)
    (dec_below (λ k. dec_if (dec_le from k) (ℕ_discrete (get page k 1) 0)) to)

dec_zero_outside : (page : List ℕ) (end : ℕ) → Dec (IsZeroOutside page end)
dec_zero_outside page end =
    dec_given (λ h. h.head) (dec_zero page 4 8) λ head.
    dec_given (λ h. h.rest_of_head) (dec_zero page 16 64) λ rest_of_head.
    dec_given (λ h. h.rest) (dec_zero page end PAGE_BYTES) λ rest.
    yes (record { head = head; rest_of_head = rest_of_head; rest = rest })

dec_says_level : (page : List ℕ) (node : Node) → Dec (SaysLevel page node)
dec_says_level page node =
    dec_given (λ h. h.kind) (ℕ_discrete (head_in page).kind (kind_of node)) λ kind.
    dec_given (λ h. h.level) (ℕ_discrete (head_in page).level (level_of node)) λ level.
    yes (record { kind = kind; level = level })

dec_zeros : (page : List ℕ) (node : Node) → Dec (HasZeros page node)
dec_zeros page node =
    dec_given (λ h. h.outside) (dec_zero_outside page (end_of node)) λ outside.
    dec_given (λ h. h.places)
    (dec_below (λ i. dec_zero page (place i + place_width node) (place i + 64)) (count_of node)) λ places.
    yes (record { outside = outside; places = places })

dec_spells : (page : List ℕ) → Dec (Spells page (node_in page))
dec_spells page =
    dec_given (λ h. h.sized) (ℕ_discrete (length page) PAGE_BYTES) λ sized.
    dec_given (λ h. h.says) (dec_says_level page (node_in page)) λ says.
    dec_given (λ h. h.zeros) (dec_zeros page (node_in page)) λ zeros.
    yes (record { sized = sized; says = says; value = refl; zeros = zeros })

-- of what a place asks of a node
dec_inside : (left right : Base) (key : Key) → Dec (IsInside left right key)
dec_inside left right key =
    dec_given (λ h. h.from) (dec_from (key_of left) key) λ from.
    dec_given (λ h. h.before) (dec_before key (key_of right)) λ before.
    yes (record { from = from; before = before })

dec_fits_level : (parent : Option Parent) (node : Node) → Dec (FitsLevel parent node)
dec_fits_level None node = yes tt
dec_fits_level (Some parent) node = ℕ_discrete (level_of node + 1) parent.level

dec_fits_count : (parent : Option Parent) (node : Node) → Dec (FitsCount parent node)
dec_fits_count None node = yes tt
dec_fits_count (Some parent) node = dec_le (least_count node) (count_of node)

dec_begins_at : (left : Base) (cs : List Child) → Dec (BeginsAt left cs)
dec_begins_at left [] = no (λ h. h)
dec_begins_at left (c ∷ cs) = dec_key (key_of c.left) (key_of left)

dec_fits_bounds : (left right : Base) (node : Node) → Dec (FitsBounds left right node)
dec_fits_bounds left right (Leaf leaf) = dec_all (λ e. dec_inside left right (element_key e)) leaf.places.items
dec_fits_bounds left right (inner_node inner) =
    dec_and (dec_begins_at left inner.places.items) (dec_key (key_of inner.right) (key_of right))

dec_fits_mirror : (parent : Option Parent) (node : Node) → Dec (FitsMirror parent node)
dec_fits_mirror None node = yes tt
dec_fits_mirror (Some parent) node = ℕ_discrete (mirror_of node) parent.mirror

dec_fits : (subtree : Subtree) (node : Node) → Dec (Fits subtree node)
dec_fits subtree node =
    dec_given (λ h. h.level) (dec_fits_level subtree.parent node) λ level.
    dec_given (λ h. h.count) (dec_fits_count subtree.parent node) λ count.
    dec_given (λ h. h.bounds) (dec_fits_bounds subtree.left subtree.right node) λ bounds.
    dec_given (λ h. h.mirror) (dec_fits_mirror subtree.parent node) λ mirror.
    yes (record { level = level; count = count; bounds = bounds; mirror = mirror })

-- of trees
dec_tree_with : {Below : Node → Type 0} → ((node : Node) → Dec (Below node)) → (height : ℕ) (subtree : Subtree) (node : Node)
    → Dec (IsTreeWith Below height subtree node)
dec_tree_with below height subtree node =
    dec_given (λ h. h.sound) (dec_node node) λ sound.
    dec_given (λ h. h.level) (ℕ_discrete (level_of node) (suc height)) λ level.
    dec_given (λ h. h.fits) (dec_fits subtree node) λ fits.
    dec_given (λ h. h.below) (below node) λ rest.
    yes (record { sound = sound; level = level; fits = fits; below = rest })

module _ (map : PageMap) where
  dec_stored_with : {Below : Node → Type 0} → ((node : Node) → Dec (Below node)) → (height : ℕ) (subtree : Subtree)
      → Dec (IsStoredWith Below map height subtree)
  dec_stored_with below height subtree =
      dec_given (λ h. h.there) (dec_true (is_some (map subtree.at))) λ there.
      dec_given (λ h. h.spelled) (dec_spells (page_in (map subtree.at))) λ spelled.
      dec_given (λ h. h.tree) (dec_tree_with below height subtree (node_at map subtree.at)) λ tree.
      yes (record { there = there; spelled = spelled; tree = tree })

  dec_children : (height : ℕ) (node : Node) → Dec (HasChildren map height node)
  dec_children zero node = yes tt
  dec_children (suc height) (Leaf leaf) = no (λ h. h)
  dec_children (suc height) (inner_node inner) = dec_each (dec_stored_with (dec_children height) height) (children_of inner)

  dec_sound_tree : (root : ℕ) → Dec (IsSoundTree map root)
  dec_sound_tree root =
      let height = height_of (node_at map root) in
      dec_stored_with (dec_children height) height (root_place root)

-- where offsets end: each is a number of 8 bytes
abbrev pub end_of_offsets : ℕ
end_of_offsets = 2 ^ 64

-- no page stands where no offset is
abbrev pub EndsWithOffsets : PageMap → Type 0
EndsWithOffsets map = (at : ℕ) → end_of_offsets ≤ at → map at ≡ None

-- a fact of each page of a map, asked of offsets alone
abbrev pub OfPages : PageMap → (ℕ → Type 0) → Type 0
OfPages map P = (at : ℕ) → at < end_of_offsets → IsSome (map at) → P at

-- an offset is that of a root, or of a node below it
abbrev pub is_in_tree : PageMap → ℕ → ℕ → Bool
is_in_tree map root at = nat_eq at root || reaches map (height_of (node_at map root)) (node_at map root) at

-- a tree alone in its pages, asked of offsets alone
pub record IsTreeOfOffsets (map : PageMap) (root : ℕ) : Type 0 where
  pub sound : IsSoundTree map root
  pub whole : OfPages map (λ at. IsTrue (is_in_tree map root at))
  pub spots : OfPages map IsSpot

dec_of_pages : (map : PageMap) {P : ℕ → Type 0} → ((at : ℕ) → Dec (P at)) → Dec (OfPages map P)
dec_of_pages map each = dec_below (λ at. dec_if (dec_true (is_some (map at))) (each at)) end_of_offsets

pub dec_tree_of_offsets : (map : PageMap) (root : ℕ) → Dec (IsTreeOfOffsets map root)
dec_tree_of_offsets map root =
    dec_given (λ h. h.sound) (dec_sound_tree map root) λ sound.
    dec_given (λ h. h.whole) (dec_of_pages map (λ at. dec_true (is_in_tree map root at))) λ whole.
    dec_given (λ h. h.spots) (dec_of_pages map dec_spot) λ spots.
    yes (record { sound = sound; whole = whole; spots = spots })

-- each tree alone in its pages is one of offsets
pub to_offsets : (map : PageMap) (root : ℕ) → IsTreeSpace map root → IsTreeOfOffsets map root
to_offsets map root tree = record { sound = tree.sound; whole = λ at lt. tree.whole at; spots = λ at lt. tree.spots at }

-- and the other way, where no page stands beyond them
below_end : (map : PageMap) → EndsWithOffsets map → (P : ℕ → Type 0) → OfPages map P → (at : ℕ) → IsSome (map at) → P at
below_end map ends P all at some = elim (cases_lt at end_of_offsets) [
  | inl lt ↦ all at lt some
  | inr le ↦ absurd (cc (ends at le))
]

pub from_offsets : (map : PageMap) (root : ℕ) → EndsWithOffsets map → IsTreeOfOffsets map root → IsTreeSpace map root
from_offsets map root ends tree = record {
  sound = tree.sound;
  whole = below_end map ends _ tree.whole;
  spots = below_end map ends _ tree.spots;
}

pub dec_tree_space : (map : PageMap) (root : ℕ) → EndsWithOffsets map → Dec (IsTreeSpace map root)
dec_tree_space map root ends = map_dec (from_offsets map root ends) (to_offsets map root) (dec_tree_of_offsets map root)
