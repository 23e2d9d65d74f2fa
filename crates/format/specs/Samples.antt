-- The starred sample payloads of document 01, each a call with its answer and what it leaves in the lent numbers or bytes. The payloads
-- are written out byte for byte, so that nothing of the definitions stands on both sides. proofs/Samples.antt computes them.
use Rattle.std.specs.Prelude.{ℕ, ◌≡◌, List, [], ◌∷◌, map, length, set}
use Rattle.layout.specs.Refusals.{answer_number, answer_second}
use Rattle.format.specs.Read.{read_answer, read_table}
use Rattle.format.specs.Write.{write_answer, write_output}

pub data Call : Type 0 where
  -- a payload
  read : List ℕ → Call
  -- a payload, an edit text and a row table
  write : List ℕ → List ℕ → List ℕ → Call

-- an answer's number and second number, and what the call leaves in what it was lent
pub record Outcome : Type 0 where
  pub number : ℕ
  pub second : ℕ
  pub left : List ℕ

pub record Sample : Type 0 where
  pub call : Call
  pub lent : List ℕ
  pub outcome : Outcome

-- a main header alone
abbrev empty_payload : List ℕ
empty_payload =
    -- main header: length 8, flags, 0 sections
    0x08 ∷ 0x00 ∷ 0x00 ∷ 0x00 ∷ 0x00 ∷ 0x00 ∷ 0x00 ∷ 0x00 ∷
    []

-- names, none
abbrev empty_names : List ℕ
empty_names =
    -- main header: length 28, flags, 1 section
    0x1C ∷ 0x00 ∷ 0x00 ∷ 0x00 ∷ 0x00 ∷ 0x00 ∷ 0x01 ∷ 0x00 ∷
    -- section header: size 20, flags, kind 1
    0x14 ∷ 0x00 ∷ 0x00 ∷ 0x00 ∷ 0x00 ∷ 0x00 ∷ 0x01 ∷ 0x00 ∷
    -- names: flags, count 0, entry bytes 0
    0x00 ∷ 0x00 ∷ 0x00 ∷ 0x00 ∷ 0x00 ∷ 0x00 ∷ 0x00 ∷ 0x00 ∷ 0x00 ∷ 0x00 ∷
    -- padding
    0x00 ∷ 0x00 ∷
    []

-- the same with its last byte 1
abbrev padding_set : List ℕ
padding_set = set empty_names 27 1

-- plain contents, one empty content
abbrev empty_content : List ℕ
empty_content =
    -- main header: length 52, flags, 1 section
    0x34 ∷ 0x00 ∷ 0x00 ∷ 0x00 ∷ 0x00 ∷ 0x00 ∷ 0x01 ∷ 0x00 ∷
    -- section header: size 44, flags, kind 0
    0x2C ∷ 0x00 ∷ 0x00 ∷ 0x00 ∷ 0x00 ∷ 0x00 ∷ 0x00 ∷ 0x00 ∷
    -- contents: header field, flags, compression 0, stored bytes 16, uncompressed bytes 16, count 1
    0x00 ∷ 0x00 ∷ 0x00 ∷ 0x00 ∷ 0x00 ∷ 0x00 ∷ 0x00 ∷ 0x00 ∷ 0x10 ∷ 0x00 ∷ 0x00 ∷ 0x00 ∷ 0x10 ∷ 0x00 ∷ 0x00 ∷ 0x00 ∷ 0x01 ∷ 0x00 ∷ 0x00 ∷ 0x00 ∷
    -- entry: aligned size 16, flags, content size 1
    0x10 ∷ 0x00 ∷ 0x00 ∷ 0x00 ∷ 0x00 ∷ 0x00 ∷ 0x00 ∷ 0x00 ∷ 0x01 ∷ 0x00 ∷ 0x00 ∷ 0x00 ∷
    -- terminator, padding
    0x00 ∷ 0x00 ∷ 0x00 ∷ 0x00 ∷
    []

-- the same with content size 0
abbrev content_size_zero : List ℕ
content_size_zero = set empty_content 44 0

-- packed contents, no stored bytes
abbrev packed_count5 : List ℕ
packed_count5 =
    -- main header: length 36, flags, 1 section
    0x24 ∷ 0x00 ∷ 0x00 ∷ 0x00 ∷ 0x00 ∷ 0x00 ∷ 0x01 ∷ 0x00 ∷
    -- section header: size 28, flags, kind 0
    0x1C ∷ 0x00 ∷ 0x00 ∷ 0x00 ∷ 0x00 ∷ 0x00 ∷ 0x00 ∷ 0x00 ∷
    -- contents: header field, flags, compression 1, stored bytes 0, uncompressed bytes 900, count 5
    0x00 ∷ 0x00 ∷ 0x00 ∷ 0x00 ∷ 0x00 ∷ 0x00 ∷ 0x01 ∷ 0x00 ∷ 0x00 ∷ 0x00 ∷ 0x00 ∷ 0x00 ∷ 0x84 ∷ 0x03 ∷ 0x00 ∷ 0x00 ∷ 0x05 ∷ 0x00 ∷ 0x00 ∷ 0x00 ∷
    []

-- a name of the bytes C0 80
abbrev overlong : List ℕ
overlong =
    -- main header: length 48, flags, 1 section
    0x30 ∷ 0x00 ∷ 0x00 ∷ 0x00 ∷ 0x00 ∷ 0x00 ∷ 0x01 ∷ 0x00 ∷
    -- section header: size 40, flags, kind 1
    0x28 ∷ 0x00 ∷ 0x00 ∷ 0x00 ∷ 0x00 ∷ 0x00 ∷ 0x01 ∷ 0x00 ∷
    -- names: flags, count 1, entry bytes 20
    0x00 ∷ 0x00 ∷ 0x00 ∷ 0x00 ∷ 0x01 ∷ 0x00 ∷ 0x00 ∷ 0x00 ∷ 0x14 ∷ 0x00 ∷
    -- entry: aligned size 20, flags, name size 3, content size 1
    0x14 ∷ 0x00 ∷ 0x00 ∷ 0x00 ∷ 0x00 ∷ 0x00 ∷ 0x00 ∷ 0x00 ∷ 0x03 ∷ 0x00 ∷ 0x00 ∷ 0x00 ∷ 0x01 ∷ 0x00 ∷ 0x00 ∷ 0x00 ∷
    -- name, terminator, padding
    0xC0 ∷ 0x80 ∷ 0x00 ∷ 0x00 ∷
    -- padding
    0x00 ∷ 0x00 ∷
    []

-- a name of the bytes ED A0 80
abbrev surrogate : List ℕ
surrogate =
    -- main header: length 48, flags, 1 section
    0x30 ∷ 0x00 ∷ 0x00 ∷ 0x00 ∷ 0x00 ∷ 0x00 ∷ 0x01 ∷ 0x00 ∷
    -- section header: size 40, flags, kind 1
    0x28 ∷ 0x00 ∷ 0x00 ∷ 0x00 ∷ 0x00 ∷ 0x00 ∷ 0x01 ∷ 0x00 ∷
    -- names: flags, count 1, entry bytes 20
    0x00 ∷ 0x00 ∷ 0x00 ∷ 0x00 ∷ 0x01 ∷ 0x00 ∷ 0x00 ∷ 0x00 ∷ 0x14 ∷ 0x00 ∷
    -- entry: aligned size 20, flags, name size 4, content size 1
    0x14 ∷ 0x00 ∷ 0x00 ∷ 0x00 ∷ 0x00 ∷ 0x00 ∷ 0x00 ∷ 0x00 ∷ 0x04 ∷ 0x00 ∷ 0x00 ∷ 0x00 ∷ 0x01 ∷ 0x00 ∷ 0x00 ∷ 0x00 ∷
    -- name, terminator, padding
    0xED ∷ 0xA0 ∷ 0x80 ∷ 0x00 ∷
    -- padding
    0x00 ∷ 0x00 ∷
    []

-- a name of the bytes a, NUL, b
abbrev inner_nul : List ℕ
inner_nul =
    -- main header: length 48, flags, 1 section
    0x30 ∷ 0x00 ∷ 0x00 ∷ 0x00 ∷ 0x00 ∷ 0x00 ∷ 0x01 ∷ 0x00 ∷
    -- section header: size 40, flags, kind 1
    0x28 ∷ 0x00 ∷ 0x00 ∷ 0x00 ∷ 0x00 ∷ 0x00 ∷ 0x01 ∷ 0x00 ∷
    -- names: flags, count 1, entry bytes 20
    0x00 ∷ 0x00 ∷ 0x00 ∷ 0x00 ∷ 0x01 ∷ 0x00 ∷ 0x00 ∷ 0x00 ∷ 0x14 ∷ 0x00 ∷
    -- entry: aligned size 20, flags, name size 4, content size 1
    0x14 ∷ 0x00 ∷ 0x00 ∷ 0x00 ∷ 0x00 ∷ 0x00 ∷ 0x00 ∷ 0x00 ∷ 0x04 ∷ 0x00 ∷ 0x00 ∷ 0x00 ∷ 0x01 ∷ 0x00 ∷ 0x00 ∷ 0x00 ∷
    -- name, terminator, padding
    0x61 ∷ 0x00 ∷ 0x62 ∷ 0x00 ∷
    -- padding
    0x00 ∷ 0x00 ∷
    []

-- numbers lent, and bytes lent: none of them is a value that a sample stores
abbrev lent : List ℕ
lent = 99 ∷ 98 ∷ 97 ∷ 96 ∷ 95 ∷ 94 ∷ 93 ∷ 92 ∷ 91 ∷ 90 ∷ 89 ∷ 88 ∷ 87 ∷ 86 ∷ 85 ∷ []

-- a refused call with a number: its second number is 0, and nothing changes
abbrev refused : ℕ → Call → Sample
refused number call = record { call = call; lent = lent; outcome = record { number = number; second = 0; left = lent } }

-- an accepted call that stores so many rows or bytes
abbrev accepted_call : Call → ℕ → List ℕ → Sample
accepted_call call count left = record { call = call; lent = lent; outcome = record { number = 0; second = count; left = left } }

abbrev pub samples : List Sample
samples =
    accepted_call (read empty_payload) 0 (99 ∷ 98 ∷ 97 ∷ 96 ∷ 95 ∷ 94 ∷ 93 ∷ 92 ∷ 91 ∷ 90 ∷ 89 ∷ 88 ∷ 87 ∷ 86 ∷ 85 ∷ []) ∷
    refused 2 (read []) ∷
    refused 2 (read (8 ∷ 0 ∷ 0 ∷ 0 ∷ 0 ∷ 0 ∷ 0 ∷ [])) ∷
    accepted_call (write [] [] []) 8 (8 ∷ 0 ∷ 0 ∷ 0 ∷ 0 ∷ 0 ∷ 0 ∷ 0 ∷ 91 ∷ 90 ∷ 89 ∷ 88 ∷ 87 ∷ 86 ∷ 85 ∷ []) ∷
    accepted_call (read empty_names) 1 (2 ∷ 0 ∷ 0 ∷ 0 ∷ 0 ∷ 0 ∷ 0 ∷ 92 ∷ 91 ∷ 90 ∷ 89 ∷ 88 ∷ 87 ∷ 86 ∷ 85 ∷ []) ∷
    refused 8 (read padding_set) ∷
    accepted_call (read empty_content) 2 (0 ∷ 0 ∷ 0 ∷ 0 ∷ 0 ∷ 0 ∷ 0 ∷ 5 ∷ 0 ∷ 48 ∷ 0 ∷ 0 ∷ 0 ∷ 0 ∷ 85 ∷ []) ∷
    refused 9 (read content_size_zero) ∷
    accepted_call (read packed_count5) 1 (1 ∷ 0 ∷ 0 ∷ 36 ∷ 0 ∷ 5 ∷ 900 ∷ 92 ∷ 91 ∷ 90 ∷ 89 ∷ 88 ∷ 87 ∷ 86 ∷ 85 ∷ []) ∷
    refused 17 (write [] [] (4 ∷ 0 ∷ 2 ∷ 0 ∷ 0 ∷ 0 ∷ 0 ∷ [])) ∷
    refused 17 (write (1 ∷ 2 ∷ 3 ∷ []) [] (4 ∷ 0 ∷ 3 ∷ 0 ∷ 3 ∷ 0 ∷ 0 ∷ [])) ∷
    refused 11 (read overlong) ∷
    refused 11 (read surrogate) ∷
    refused 12 (read inner_nul) ∷
    []

-- what the definitions give for a call with what it is lent
abbrev outcome_of : Call → List ℕ → Outcome
outcome_of (read payload) lent =
    record { number = answer_number (read_answer payload (length lent)); second = answer_second (read_answer payload (length lent)); left = read_table payload lent }
outcome_of (write payload edit table) lent =
    record { number = answer_number (write_answer payload edit table (length lent)); second = answer_second (write_answer payload edit table (length lent)); left = write_output payload edit table lent }

-- the definitions give every sample's outcome
abbrev pub SamplesHold : Type 0
SamplesHold = map (λ (s : Sample). outcome_of s.call s.lent) samples ≡ map (λ (s : Sample). s.outcome) samples
