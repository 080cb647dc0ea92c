-- The payloads of a sound image may stand where they do: what is so of all that the tree refers to is so of them.
use Rattle.std.proofs.Common.{ℕ, ◌≤◌, List, [], ◌∷◌, ◌++◌, arith, map}
use Rattle.std.specs.Prelude.{count_by}
use Rattle.std.proofs.lemmas.List.Elements.{All-weaker}
use Rattle.hm_types.specs.References.{AreFew, IsPlaced, NoneOverlap, Reference, is_there}
use Rattle.hm_types.specs.declared.space.TheConstants.{MOST_REFERENCES}
use Rattle.hm_freemap.proofs.CountLemmas.{count-append}
use Rattle.hm_header.specs.declared.header.Header.{Header}
use Rattle.hm_search.specs.Tree.{elements_of}
use Rattle.hm_image.specs.Extents.{HavePlaces}
use Rattle.hm_image.specs.Image.{pages_of, to_payload}
use Rattle.hm_image.specs.Referred.{nodes_of}
use Rattle.hm_image.specs.Sound.{IsSoundBy}
use Rattle.hm_image.proofs.ReferenceLemmas.{All-right}

pub apart_right : (xs ys : List Reference) → NoneOverlap (xs ++ ys) → NoneOverlap ys
apart_right [] ys apart = apart
apart_right (x ∷ xs) ys apart = apart_right xs ys apart.1

pub few_right : (xs ys : List Reference) → AreFew (xs ++ ys) → AreFew ys
few_right xs ys few =
    let all : Reference → Type 0 = λ r. count_by (is_there r) (xs ++ ys) ≤ MOST_REFERENCES in
    let right : Reference → Type 0 = λ r. count_by (is_there r) ys ≤ MOST_REFERENCES in
    All-weaker all right (λ r le. omega (arith, le, count-append (is_there r) xs ys)) ys (All-right all xs ys few)

pub sound_places : (image : List ℕ) (header : Header) → IsSoundBy image header
    → HavePlaces image header.bigblocks (elements_of (pages_of image) header.root)
sound_places image header sound =
    let nodes = nodes_of (pages_of image) header.root in
    let payloads = map to_payload (elements_of (pages_of image) header.root) in
    record {
      room = sound.counts.room;
      zones = sound.extents.zones;
      placed = All-right (IsPlaced header.bigblocks) nodes payloads sound.extents.placed;
      apart = apart_right nodes payloads sound.extents.apart;
      few = few_right nodes payloads sound.extents.few;
    }
