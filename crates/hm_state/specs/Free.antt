-- What is free on the volume of an image.
use Rattle.std.specs.Prelude.{ℕ, List}
use Rattle.hm_types.specs.References.{Reference, free_blocks}
use Rattle.hm_header.specs.declared.header.Header.{Header}
use Rattle.hm_image.specs.Image.{pages_of, references_from}

-- how many big-blocks are free on an image with this header, counted from what its tree refers to
abbrev pub free_in : List ℕ → Header → ℕ
free_in image header =
    let refs : List Reference = references_from (pages_of image) header.root in
    free_blocks header.bigblocks header.append (record { committed = refs; frozen = refs; current = refs })
