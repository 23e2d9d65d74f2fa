-- The samples hold: antt computes every sample's outcome from the definitions, all of which it opens here.
-- Assumes nothing.
use mathlib.Core.Path.{refl}
use mathlib.Core.List.{flat_map}
use Rattle.find.specs.Find.{until}
use Rattle.find.specs.Nul.{until_nul}
use Rattle.wire.specs.Number.{little_endian, bytes_of}
use Rattle.wire.specs.Padding.{padding, aligned, all_zero}
use Rattle.utf8.specs.Rfc3629.{well_formed, utf8_of, octets_from, char_length, first_length, begins}
use Rattle.layout.specs.Checked.{check, then}
use Rattle.layout.specs.TextCheck.{check_text}
use Rattle.layout.specs.Spans.{side_of}
use Rattle.table.specs.Rows.{spans_by}
use Rattle.table.specs.Tags.{same_tag}
use Rattle.format.specs.Encoding.{within_limits, all_countable, countable, encode, encode_section, content_entry, name_entry, pair_entry, stored_bytes, body_header, kind_of}
use Rattle.format.specs.Display.{ascii, decimal_within}
use Rattle.format.specs.Parse.{parse, parse_sections, frame, parse_section, parse_contents, parse_stored, parse_names, parse_arguments, pairs, pair, pair_text, framed, entries, entry, terminated_text}
use Rattle.format.specs.Rules.{check_row, check_rows, check_texts, obeys, tag_rule, all_inside}
use Rattle.format.specs.Resolve.{resolve, sections_of, begun, leading}
use Rattle.format.specs.Records.{records_of, records, sections}
use Rattle.format.specs.Records as rec
use Rattle.format.specs.Output.{answer, output_after}
use Rattle.sheet.specs.Fields.{all, spelt, is_decimal, is_number, hex_pairs, is_hex_pairs, bytes_of_pairs, escape, is_escaped, unescape}
use Rattle.sheet.specs.Lines.{line, split, same, tag_among, is_made, check_all, read_fields, read_line}
use Rattle.sheet.specs.ToSheet.{sheet, to_sheet, to_sheet_answer, to_sheet_output}
use Rattle.sheet.specs.FromSheet.{read_lines, sheet_records, from_sheet, from_sheet_answer, from_sheet_output}
use Rattle.sheet.specs.Samples.{SamplesHold}

pub samples-hold : SamplesHold
unfolding answer output_after to_sheet_answer to_sheet_output to_sheet sheet from_sheet_answer from_sheet_output from_sheet sheet_records read_lines read_line read_fields check_all is_made tag_among same split line all spelt is_decimal is_number hex_pairs is_hex_pairs bytes_of_pairs escape is_escaped unescape records_of records sections rec.leading rec.begun resolve sections_of begun leading check_row check_rows check_texts obeys tag_rule all_inside parse parse_sections frame parse_section parse_contents parse_stored parse_names parse_arguments pairs pair pair_text framed entries entry terminated_text ascii decimal_within within_limits all_countable countable encode encode_section content_entry name_entry pair_entry stored_bytes body_header kind_of spans_by same_tag check then check_text side_of well_formed utf8_of octets_from char_length first_length begins until_nul until little_endian bytes_of padding aligned all_zero flat_map
samples-hold = refl
