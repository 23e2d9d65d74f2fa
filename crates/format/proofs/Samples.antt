-- The starred samples hold: antt computes every sample's outcome from the definitions, all of which it opens here.
-- Assumes nothing.
use mathlib.Core.Path.{refl}
use mathlib.Core.List.{flat_map}
use Rattle.find.specs.Find.{until}
use Rattle.find.specs.Nul.{until_nul}
use Rattle.wire.specs.Number.{little_endian, bytes_of}
use Rattle.wire.specs.Padding.{padding, aligned, all_zero}
use Rattle.utf8.specs.Rfc3629.{well_formed, utf8_of, octets_from, char_length, first_length, begins}
use Rattle.layout.specs.Checked.{check, then}
use Rattle.format.specs.Encoding.{within_limits, all_countable, encode, encode_section}
use Rattle.table.specs.Rows.{table_of, rows_of, spans_by}
use Rattle.table.specs.Tags.{same_tag}
use Rattle.layout.specs.TextCheck.{check_text}
use Rattle.layout.specs.Spans.{side_of}
use Rattle.format.specs.Parse.{parse, parse_sections, frame, parse_section, parse_contents, parse_stored, parse_names, framed, entries, entry, terminated_text}
use Rattle.format.specs.Read.{read_answer, read_table, rows_answer, table_after}
use Rattle.format.specs.Rules.{check_row, check_rows, check_texts, obeys, tag_rule, all_inside}
use Rattle.format.specs.Resolve.{resolve, sections_of}
use Rattle.format.specs.Write.{written, written_table, write_answer, write_output}
use Rattle.format.specs.Samples.{SamplesHold}
use Rattle.format.specs.Output.{answer, output_after}

pub samples-hold : SamplesHold
unfolding read_answer read_table rows_answer table_after parse parse_sections frame parse_section parse_contents parse_stored parse_names framed entries entry terminated_text write_answer write_output written_table written answer output_after resolve sections_of check_row check_rows check_texts obeys tag_rule all_inside spans_by same_tag check then check_text within_limits all_countable encode encode_section table_of rows_of flat_map side_of until_nul until well_formed utf8_of octets_from char_length first_length begins little_endian bytes_of padding aligned all_zero
samples-hold = refl
