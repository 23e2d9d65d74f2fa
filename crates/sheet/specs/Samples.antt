-- Calls with their answers, from a payload to its sheet and back. The answers are an independent model's (vectors a-to_sheet.tsv and
-- a-from_sheet.tsv), but for those at the end, which are read off the text of request (a). Payloads are written out byte for byte, and sheets as texts.
-- proofs/Samples.antt computes them.
use Rattle.std.specs.Prelude.{ℕ, ◌-◌, ◌≡◌, List, [], ◌∷◌, ◌++◌, map, replicate, set}
use Rattle.layout.specs.Refusals.{answer_number, answer_second}
use Rattle.format.specs.Display.{ascii}
use Rattle.sheet.specs.FromSheet.{from_sheet_answer, from_sheet_output}
use Rattle.sheet.specs.ToSheet.{to_sheet_answer, to_sheet_output}

pub data Call : Type 0 where
  -- of a payload, its sheet
  out : List ℕ → Call
  -- of a sheet, its payload
  back : List ℕ → Call

-- an answer's number and second number, and what the call leaves in the output that it was lent
pub record Outcome : Type 0 where
  pub number : ℕ
  pub second : ℕ
  pub left : List ℕ

-- a call that is lent so many bytes
pub record Sample : Type 0 where
  pub call : Call
  pub room : ℕ
  pub outcome : Outcome

-- a main header alone
abbrev empty_payload : List ℕ
empty_payload =
    -- main header: length 8, flags, 0 sections
    0x08 ∷ 0x00 ∷ 0x00 ∷ 0x00 ∷ 0x00 ∷ 0x00 ∷ 0x00 ∷ 0x00 ∷
    []

-- the same with 65,288 for its length
abbrev length_wrong : List ℕ
length_wrong = set empty_payload 1 255

-- an unknown section without bytes
abbrev unknown256 : List ℕ
unknown256 =
    -- main header: length 16, flags, 1 section
    0x10 ∷ 0x00 ∷ 0x00 ∷ 0x00 ∷ 0x00 ∷ 0x00 ∷ 0x01 ∷ 0x00 ∷
    -- section header: size 8, flags, kind 256
    0x08 ∷ 0x00 ∷ 0x00 ∷ 0x00 ∷ 0x00 ∷ 0x00 ∷ 0x00 ∷ 0x01 ∷
    []

-- names, none
abbrev empty_names : List ℕ
empty_names =
    -- main header: length 28, flags, 1 section
    0x1C ∷ 0x00 ∷ 0x00 ∷ 0x00 ∷ 0x00 ∷ 0x00 ∷ 0x01 ∷ 0x00 ∷
    -- section header: size 20, flags, kind 1
    0x14 ∷ 0x00 ∷ 0x00 ∷ 0x00 ∷ 0x00 ∷ 0x00 ∷ 0x01 ∷ 0x00 ∷
    -- names: flags, count 0, entry bytes 0
    0x00 ∷ 0x00 ∷ 0x00 ∷ 0x00 ∷ 0x00 ∷ 0x00 ∷ 0x00 ∷ 0x00 ∷ 0x00 ∷ 0x00 ∷
    -- padding
    0x00 ∷ 0x00 ∷
    []

-- plain contents, one content
abbrev plain_content : List ℕ
plain_content =
    -- main header: length 60, flags, 1 section
    0x3C ∷ 0x00 ∷ 0x00 ∷ 0x00 ∷ 0x00 ∷ 0x00 ∷ 0x01 ∷ 0x00 ∷
    -- section header: size 52, flags, kind 0
    0x34 ∷ 0x00 ∷ 0x00 ∷ 0x00 ∷ 0x00 ∷ 0x00 ∷ 0x00 ∷ 0x00 ∷
    -- contents: header field 0, flags, compression 0, stored bytes 24, uncompressed bytes 24, count 1
    0x00 ∷ 0x00 ∷ 0x00 ∷ 0x00 ∷ 0x00 ∷ 0x00 ∷ 0x00 ∷ 0x00 ∷ 0x18 ∷ 0x00 ∷ 0x00 ∷ 0x00 ∷ 0x18 ∷ 0x00 ∷ 0x00 ∷ 0x00 ∷ 0x01 ∷ 0x00 ∷ 0x00 ∷ 0x00 ∷
    -- entry: aligned size 24, flags, content size 10
    0x18 ∷ 0x00 ∷ 0x00 ∷ 0x00 ∷ 0x00 ∷ 0x00 ∷ 0x00 ∷ 0x00 ∷ 0x0A ∷ 0x00 ∷ 0x00 ∷ 0x00 ∷
    -- text, terminator, padding
    0x6D ∷ 0x61 ∷ 0x69 ∷ 0x6E ∷ 0x2E ∷ 0x68 ∷ 0x6C ∷ 0x73 ∷ 0x6C ∷ 0x00 ∷ 0x00 ∷ 0x00 ∷
    []

-- the same with header field 5, and a carriage return as the text's first byte
abbrev header_and_return : List ℕ
header_and_return = set (set plain_content 16 5) 48 13

-- packed contents that are said to have the most bytes
abbrev packed_most : List ℕ
packed_most =
    -- main header: length 40, flags, 1 section
    0x28 ∷ 0x00 ∷ 0x00 ∷ 0x00 ∷ 0x00 ∷ 0x00 ∷ 0x01 ∷ 0x00 ∷
    -- section header: size 32, flags, kind 0
    0x20 ∷ 0x00 ∷ 0x00 ∷ 0x00 ∷ 0x00 ∷ 0x00 ∷ 0x00 ∷ 0x00 ∷
    -- contents: header field 0, flags, compression 1, stored bytes 2, uncompressed bytes 4294967295, count 0
    0x00 ∷ 0x00 ∷ 0x00 ∷ 0x00 ∷ 0x00 ∷ 0x00 ∷ 0x01 ∷ 0x00 ∷ 0x02 ∷ 0x00 ∷ 0x00 ∷ 0x00 ∷ 0xFF ∷ 0xFF ∷ 0xFF ∷ 0xFF ∷ 0x00 ∷ 0x00 ∷ 0x00 ∷ 0x00 ∷
    -- stored bytes, padding
    0x8B ∷ 0xA2 ∷ 0x00 ∷ 0x00 ∷
    []

-- arguments, a pair with each of the three bytes that are escaped
abbrev escaped_pair : List ℕ
escaped_pair =
    -- main header: length 40, flags, 1 section
    0x28 ∷ 0x00 ∷ 0x00 ∷ 0x00 ∷ 0x00 ∷ 0x00 ∷ 0x01 ∷ 0x00 ∷
    -- section header: size 32, flags, kind 2
    0x20 ∷ 0x00 ∷ 0x00 ∷ 0x00 ∷ 0x00 ∷ 0x00 ∷ 0x02 ∷ 0x00 ∷
    -- arguments: flags, entry bytes 9, count 1
    0x00 ∷ 0x00 ∷ 0x00 ∷ 0x00 ∷ 0x09 ∷ 0x00 ∷ 0x00 ∷ 0x00 ∷ 0x01 ∷ 0x00 ∷ 0x00 ∷ 0x00 ∷
    -- name, terminator, value, terminator
    0x6E ∷ 0x09 ∷ 0x00 ∷ 0x0A ∷ 0x74 ∷ 0x74 ∷ 0x5C ∷ 0x74 ∷ 0x00 ∷
    -- padding
    0x00 ∷ 0x00 ∷ 0x00 ∷
    []

-- names, the second of them empty, and packed contents
abbrev names_and_packed : List ℕ
names_and_packed =
    -- main header: length 108, flags, 2 sections
    0x6C ∷ 0x00 ∷ 0x00 ∷ 0x00 ∷ 0x00 ∷ 0x00 ∷ 0x02 ∷ 0x00 ∷
    -- section header: size 60, flags, kind 1
    0x3C ∷ 0x00 ∷ 0x00 ∷ 0x00 ∷ 0x00 ∷ 0x00 ∷ 0x01 ∷ 0x00 ∷
    -- names: flags, count 2, entry bytes 40
    0x00 ∷ 0x00 ∷ 0x00 ∷ 0x00 ∷ 0x02 ∷ 0x00 ∷ 0x00 ∷ 0x00 ∷ 0x28 ∷ 0x00 ∷
    -- entry: aligned size 20, flags, name size 2, content size 1
    0x14 ∷ 0x00 ∷ 0x00 ∷ 0x00 ∷ 0x00 ∷ 0x00 ∷ 0x00 ∷ 0x00 ∷ 0x02 ∷ 0x00 ∷ 0x00 ∷ 0x00 ∷ 0x01 ∷ 0x00 ∷ 0x00 ∷ 0x00 ∷
    -- name, terminator, padding
    0x7F ∷ 0x00 ∷ 0x00 ∷ 0x00 ∷
    -- entry: aligned size 20, flags, name size 1, content size 65536
    0x14 ∷ 0x00 ∷ 0x00 ∷ 0x00 ∷ 0x00 ∷ 0x00 ∷ 0x00 ∷ 0x00 ∷ 0x01 ∷ 0x00 ∷ 0x00 ∷ 0x00 ∷ 0x00 ∷ 0x00 ∷ 0x01 ∷ 0x00 ∷
    -- name, terminator, padding
    0x00 ∷ 0x00 ∷ 0x00 ∷ 0x00 ∷
    -- padding
    0x00 ∷ 0x00 ∷
    -- section header: size 40, flags, kind 0
    0x28 ∷ 0x00 ∷ 0x00 ∷ 0x00 ∷ 0x00 ∷ 0x00 ∷ 0x00 ∷ 0x00 ∷
    -- contents: header field 65536, flags, compression 1, stored bytes 9, uncompressed bytes 255, count 65536
    0x00 ∷ 0x00 ∷ 0x01 ∷ 0x00 ∷ 0x00 ∷ 0x00 ∷ 0x01 ∷ 0x00 ∷ 0x09 ∷ 0x00 ∷ 0x00 ∷ 0x00 ∷ 0xFF ∷ 0x00 ∷ 0x00 ∷ 0x00 ∷ 0x00 ∷ 0x00 ∷ 0x01 ∷ 0x00 ∷
    -- stored bytes, padding
    0x62 ∷ 0xEE ∷ 0x66 ∷ 0x9D ∷ 0xC3 ∷ 0x0B ∷ 0x3A ∷ 0xD7 ∷ 0xA9 ∷ 0x00 ∷ 0x00 ∷ 0x00 ∷
    []

-- packed contents with a header field
abbrev packed5 : List ℕ
packed5 =
    -- main header: length 40, flags, 1 section
    0x28 ∷ 0x00 ∷ 0x00 ∷ 0x00 ∷ 0x00 ∷ 0x00 ∷ 0x01 ∷ 0x00 ∷
    -- section header: size 32, flags, kind 0
    0x20 ∷ 0x00 ∷ 0x00 ∷ 0x00 ∷ 0x00 ∷ 0x00 ∷ 0x00 ∷ 0x00 ∷
    -- contents: header field 5, flags, compression 1, stored bytes 1, uncompressed bytes 65535, count 10
    0x05 ∷ 0x00 ∷ 0x00 ∷ 0x00 ∷ 0x00 ∷ 0x00 ∷ 0x01 ∷ 0x00 ∷ 0x01 ∷ 0x00 ∷ 0x00 ∷ 0x00 ∷ 0xFF ∷ 0xFF ∷ 0x00 ∷ 0x00 ∷ 0x0A ∷ 0x00 ∷ 0x00 ∷ 0x00 ∷
    -- stored bytes, padding
    0xC7 ∷ 0x00 ∷ 0x00 ∷ 0x00 ∷
    []

-- names, none; contents with a header field; an unknown section with bytes
abbrev three_sections : List ℕ
three_sections =
    -- main header: length 96, flags, 3 sections
    0x60 ∷ 0x00 ∷ 0x00 ∷ 0x00 ∷ 0x00 ∷ 0x00 ∷ 0x03 ∷ 0x00 ∷
    -- section header: size 20, flags, kind 1
    0x14 ∷ 0x00 ∷ 0x00 ∷ 0x00 ∷ 0x00 ∷ 0x00 ∷ 0x01 ∷ 0x00 ∷
    -- names: flags, count 0, entry bytes 0
    0x00 ∷ 0x00 ∷ 0x00 ∷ 0x00 ∷ 0x00 ∷ 0x00 ∷ 0x00 ∷ 0x00 ∷ 0x00 ∷ 0x00 ∷
    -- padding
    0x00 ∷ 0x00 ∷
    -- section header: size 44, flags, kind 0
    0x2C ∷ 0x00 ∷ 0x00 ∷ 0x00 ∷ 0x00 ∷ 0x00 ∷ 0x00 ∷ 0x00 ∷
    -- contents: header field 5, flags, compression 0, stored bytes 16, uncompressed bytes 16, count 1
    0x05 ∷ 0x00 ∷ 0x00 ∷ 0x00 ∷ 0x00 ∷ 0x00 ∷ 0x00 ∷ 0x00 ∷ 0x10 ∷ 0x00 ∷ 0x00 ∷ 0x00 ∷ 0x10 ∷ 0x00 ∷ 0x00 ∷ 0x00 ∷ 0x01 ∷ 0x00 ∷ 0x00 ∷ 0x00 ∷
    -- entry: aligned size 16, flags, content size 3
    0x10 ∷ 0x00 ∷ 0x00 ∷ 0x00 ∷ 0x00 ∷ 0x00 ∷ 0x00 ∷ 0x00 ∷ 0x03 ∷ 0x00 ∷ 0x00 ∷ 0x00 ∷
    -- text, terminator, padding
    0x0A ∷ 0x09 ∷ 0x00 ∷ 0x00 ∷
    -- section header: size 24, flags, kind 4
    0x18 ∷ 0x00 ∷ 0x00 ∷ 0x00 ∷ 0x00 ∷ 0x00 ∷ 0x04 ∷ 0x00 ∷
    -- bytes
    0x69 ∷ 0x26 ∷ 0x8F ∷ 0x1D ∷ 0x11 ∷ 0xA0 ∷ 0x0B ∷ 0xD7 ∷ 0x5E ∷ 0x48 ∷ 0x06 ∷ 0xB5 ∷ 0x86 ∷ 0x30 ∷ 0x8D ∷ 0x24 ∷
    []

-- an unknown section without bytes; a pair; a name
abbrev unknown_pair_name : List ℕ
unknown_pair_name =
    -- main header: length 84, flags, 3 sections
    0x54 ∷ 0x00 ∷ 0x00 ∷ 0x00 ∷ 0x00 ∷ 0x00 ∷ 0x03 ∷ 0x00 ∷
    -- section header: size 8, flags, kind 3
    0x08 ∷ 0x00 ∷ 0x00 ∷ 0x00 ∷ 0x00 ∷ 0x00 ∷ 0x03 ∷ 0x00 ∷
    -- section header: size 28, flags, kind 2
    0x1C ∷ 0x00 ∷ 0x00 ∷ 0x00 ∷ 0x00 ∷ 0x00 ∷ 0x02 ∷ 0x00 ∷
    -- arguments: flags, entry bytes 5, count 1
    0x00 ∷ 0x00 ∷ 0x00 ∷ 0x00 ∷ 0x05 ∷ 0x00 ∷ 0x00 ∷ 0x00 ∷ 0x01 ∷ 0x00 ∷ 0x00 ∷ 0x00 ∷
    -- name, terminator, value, terminator
    0x0A ∷ 0x7F ∷ 0x00 ∷ 0x5C ∷ 0x00 ∷
    -- padding
    0x00 ∷ 0x00 ∷ 0x00 ∷
    -- section header: size 40, flags, kind 1
    0x28 ∷ 0x00 ∷ 0x00 ∷ 0x00 ∷ 0x00 ∷ 0x00 ∷ 0x01 ∷ 0x00 ∷
    -- names: flags, count 1, entry bytes 20
    0x00 ∷ 0x00 ∷ 0x00 ∷ 0x00 ∷ 0x01 ∷ 0x00 ∷ 0x00 ∷ 0x00 ∷ 0x14 ∷ 0x00 ∷
    -- entry: aligned size 20, flags, name size 2, content size 1326519183
    0x14 ∷ 0x00 ∷ 0x00 ∷ 0x00 ∷ 0x00 ∷ 0x00 ∷ 0x00 ∷ 0x00 ∷ 0x02 ∷ 0x00 ∷ 0x00 ∷ 0x00 ∷ 0x8F ∷ 0x13 ∷ 0x11 ∷ 0x4F ∷
    -- name, terminator, padding
    0x0A ∷ 0x00 ∷ 0x00 ∷ 0x00 ∷
    -- padding
    0x00 ∷ 0x00 ∷
    []

-- bytes as they were lent
abbrev lent : ℕ → List ℕ
lent count = replicate count 0xA5

-- a call that is lent so many bytes and refused with a number and a second number: nothing changes
abbrev refused : ℕ → ℕ → ℕ → Call → Sample
refused room number second call = record { call = call; room = room; outcome = record { number = number; second = second; left = lent room } }

-- a call that is lent so many bytes and stores so many of them
abbrev accepted_call : ℕ → ℕ → Call → List ℕ → Sample
accepted_call room count call stored = record { call = call; room = room; outcome = record { number = 0; second = count; left = stored ++ lent (room - count) } }

abbrev pub samples : List Sample
samples =
    -- from a payload to its sheet
    accepted_call 1 0 (out empty_payload) [] ∷
    accepted_call 14 13 (out unknown256) (ascii "unknown\t256\t\n") ∷
    accepted_call 29 29 (out plain_content) (ascii "contents\t0\ncontent\tmain.hlsl\n") ∷
    accepted_call 27 27 (out packed_most) (ascii "packed\t0\t0\t4294967295\t8ba2\n") ∷
    accepted_call 67 27 (out escaped_pair) (ascii "arguments\npair\tn\\t\t\\ntt\\\\t\n") ∷
    accepted_call 70 69 (out names_and_packed) (ascii "names\nname\t1\t\u{7f}\nname\t65536\t\npacked\t65536\t65536\t255\t62ee669dc30b3ad7a9\n") ∷
    refused 32 3 0 (out length_wrong) ∷
    refused 2 19 6 (out empty_names) ∷
    -- and back
    accepted_call 11 8 (back []) empty_payload ∷
    accepted_call 41 40 (back (ascii "packed\t5\t10\t65535\tc7\n")) packed5 ∷
    accepted_call 96 96 (back (ascii "names\ncontents\t5\ncontent\t\\n\\t\nunknown\t4\t69268f1d11a00bd75e4806b586308d24\n")) three_sections ∷
    accepted_call 84 84 (back (ascii "unknown\t3\t\narguments\npair\t\\n\u{7f}\t\\\\\nnames\nname\t1326519183\t\\n\n")) unknown_pair_name ∷
    -- a malformed line; a later one, before a text that is not UTF-8; a misplaced one
    refused 42 20 1 (back (ascii "packed\t65535u1\t65536\tcb0a\n")) ∷
    refused 79 20 2 (back (ascii "names\nname\t10  \t\ncontents\t2147483648\ncontent\t" ++ (0xC2 ∷ 0x85 ∷ ascii "\\n" ++ (0xF4 ∷ 0x90 ∷ 0x80 ∷ 0x80 ∷ ascii "\n")))) ∷
    refused 66 20 3 (back (ascii "packed\t0\t65536\t1\t\nunknown\t37398\t749504abaaf015f7\npair\t\\n\t\\t\n")) ∷
    -- a value that is not UTF-8; one with a NUL; too little room
    refused 41 11 0 (back (ascii "arguments\npair\t\\n\t" ++ (0xE1 ∷ 0x80 ∷ ascii "\\n\n"))) ∷
    refused 35 12 0 (back (ascii "arguments\npair\tshaders\t \0\\t\n")) ∷
    refused 67 19 68 (back (ascii "arguments\nnames\nname\t1\t\n")) ∷
    -- by the text of the request: a header field, and a carriage return, which stands for itself; a last line that is not closed; a leading zero;
    -- digits in upper case
    accepted_call 30 29 (out header_and_return) (ascii "contents\t5\ncontent\t\rain.hlsl\n") ∷
    refused 28 20 1 (back (ascii "names")) ∷
    refused 36 20 1 (back (ascii "contents\t05\n")) ∷
    refused 40 20 1 (back (ascii "packed\t5\t10\t65535\tC7\n")) ∷
    -- and which fault counts: of one line 20 before its texts, of a pair the name before the value, of a last line that is not closed 20 alone, and a
    -- line's text before the next line; the number of a later line
    refused 48 20 2 (back (ascii "names\nname\tx\t" ++ (0xFF ∷ ascii "\n"))) ∷
    refused 36 12 0 (back (ascii "arguments\npair\t\0\t" ++ (0xFF ∷ ascii "\n"))) ∷
    refused 48 20 2 (back (ascii "names\nname\t1\t" ++ (0xFF ∷ []))) ∷
    refused 48 11 0 (back (ascii "names\nname\t1\t" ++ (0xFF ∷ ascii "\nx\n"))) ∷
    refused 48 20 5 (back (ascii "names\nname\t1\ta\narguments\npair\tb\tc\nname\t2\td\n")) ∷
    []

-- what the definitions give for a call that is lent so many bytes
abbrev outcome_of : Call → ℕ → Outcome
outcome_of (out payload) room =
    record { number = answer_number (to_sheet_answer payload room); second = answer_second (to_sheet_answer payload room); left = to_sheet_output payload (lent room) }
outcome_of (back sheet) room =
    record { number = answer_number (from_sheet_answer sheet room); second = answer_second (from_sheet_answer sheet room); left = from_sheet_output sheet (lent room) }

-- the definitions give every sample's outcome
abbrev pub SamplesHold : Type 0
SamplesHold = map (λ (s : Sample). outcome_of s.call s.room) samples ≡ map (λ (s : Sample). s.outcome) samples
