-- The loop of `write_page`: the lines of what was said so far are stored after the heading, and each takes at most 128 bytes.
use Rattle.std.proofs.Common.{◌≡◌, ◌+◌, ◌*◌, ◌≤◌, ◌++◌, List, length}
use Rattle.std.specs.List.{filter_map}
use Rattle.std.proofs.lemmas.List.Edits.{sets}
use Rattle.accepted.specs.Sections.{sections}
use Rattle.display.specs.Summary.{page_of}
use Rattle.display.specs.declared.summary.Summary.{Summary}
use Rattle.display.proofs.page.write_page.Given as goal

abbrev pub invariant-loop-section : goal.invariant-loop-section
invariant-loop-section g l =
    let said = g.P.Page.said in
    let all = filter_map said (sections l.payload.bytes.now) in
    record {
      lines : List Summary;
      left : lines ++ filter_map said l.section-iterator ≡ all;
      numbered : l.place ≡ length lines;
      bound : l.to ≤ 45 + 128 * l.place;
      ends : l.to ≡ length (page_of (length all) lines);
      stored : l.output ≡ sets l.fn.output 0 (page_of (length all) lines);
    }
