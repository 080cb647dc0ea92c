-- How a header is laid out in a slot, which is a list of bytes. The body is all of it but the gate, its last
-- byte. A number stands with its lowest byte first.
use Rattle.std.specs.Prelude.{ℕ, List, [], ◌∷◌, ◌++◌, codes, replicate, slice_index}
use Rattle.byteorder.specs.Endian.{little_bytes}
use Rattle.hm_fields.specs.Fields.{get}
use Rattle.hm_header.specs.declared.header.Header.{Header}

-- what a slot begins with
abbrev pub signature : List ℕ
signature = codes "HMRPROF1"

-- so many zeros
unfoldable pub zeros : ℕ → List ℕ
zeros n = replicate n 0

-- the first 72 bytes of a body, each field with its place
unfoldable pub fields_of : Header → List ℕ
fields_of header =
    signature  -- 0
    ++ little_bytes 4 header.version  -- 8
    ++ little_bytes 4 header.bigblocks  -- 12
    ++ little_bytes 8 header.generation  -- 16
    ++ little_bytes 8 header.last.0  -- 24
    ++ little_bytes 8 header.root  -- 32
    ++ little_bytes 4 header.undo_first  -- 40
    ++ little_bytes 4 header.undo_count  -- 44
    ++ little_bytes 4 header.undo_next  -- 48
    ++ zeros 4  -- 52
    ++ little_bytes 4 (slice_index header.append 0)  -- 56
    ++ little_bytes 4 (slice_index header.append 1)  -- 60
    ++ little_bytes 4 (slice_index header.append 2)  -- 64
    ++ little_bytes 4 (slice_index header.append 3)  -- 68

-- a body: the fields, and zeros
unfoldable pub body_of : Header → List ℕ
body_of header = fields_of header ++ zeros 16311

-- the numbers that stand where a header has them
abbrev pub header_in : List ℕ → Header
header_in slot =
    record {
      version = get slot 8 4;
      bigblocks = get slot 12 4;
      generation = get slot 16 8;
      last = record { 0 = get slot 24 8 };
      root = get slot 32 8;
      undo_first = get slot 40 4;
      undo_count = get slot 44 4;
      undo_next = get slot 48 4;
      append = get slot 56 4 ∷ get slot 60 4 ∷ get slot 64 4 ∷ get slot 68 4 ∷ [];
    }
