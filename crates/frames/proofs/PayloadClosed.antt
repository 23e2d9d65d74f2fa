-- The main header, stored after the sections, makes the payload.
-- Assumes nothing.
use Prim.Native.Nat.{ℕ, ◌+◌}
use mathlib.Core.List.{List, ◌++◌, append_assoc, flat_map}
use mathlib.Core.Path.{◌≡◌, ap, ◌∙◌}
use lib.ListN.{length, length-append}
use lib.Seq.{sets}
use Rattle.wire.proofs.NumberLaws.{length-bytes_of}
use Rattle.wire.proofs.Sets.{sets-before}
use Rattle.format.specs.Encoding.{u16, u32, encode_section, encode}
use Rattle.format.specs.Sections.{Section}
use Rattle.format.proofs.Encoding.{length-encode}
use Rattle.frames.specs.Frame.{main_header}

pub header-stored : (size count : ℕ) (bytes l : List ℕ) → sets (sets l 8 bytes) 0 (main_header size count) ≡ sets l 0 (u32 size ++ (u16 0 ++ (u16 count ++ bytes)))
header-stored size count bytes l =
    let eight : 8 ≡ 0 + length (main_header size count) = simp (length-append, length-bytes_of) in
    let whole : main_header size count ++ bytes ≡ u32 size ++ (u16 0 ++ (u16 count ++ bytes)) = simp append_assoc in
    sets-before (main_header size count) bytes l 0 8 eight ∙ ap (sets l 0) whole

-- and of some sections, the payload that they are encoded as
pub payload_closed :
    (ss : List Section) (l : List ℕ) (size : ℕ) →
    size ≡ length (encode ss) →
    sets (sets l 8 (flat_map encode_section ss)) 0 (main_header size (length ss)) ≡ sets l 0 (encode ss)
unfolding encode
payload_closed ss l size e =
    let whole : u32 size ++ (u16 0 ++ (u16 (length ss) ++ flat_map encode_section ss)) ≡ encode ss = rw (e, length-encode ss) in
    header-stored size (length ss) (flat_map encode_section ss) l ∙ ap (sets l 0) whole
