-- `tag` meets its contract: the word is what stands before its end.
use Rattle.std.proofs.Common.{ap, sym, ◌∙◌, ℕ, take, arith}
use lib.Seq.{length-take-le}
use Rattle.sheet.specs.Lines.{tag_of_word}
use Rattle.line_reader.proofs.EndsLaws.{line-most, word-is}
use Rattle.line_reader.proofs.split_line.SplitLine.tag.Goals as goal

pub slice_bounds-tag_of_word-end : goal.slice_bounds-tag_of_word-end
slice_bounds-tag_of_word-end c = rw (c.args.self.now.ends_are 0 (omega arith)) (sym (length-take-le _ _ (line-most c.args.self.now.line.now 0)))

pub returns : goal.returns
returns c =
    let s = c.args.self.now.line.now in
    c.tag_of_word.ensures ∙ ap (λ (n : ℕ). tag_of_word (take n s)) (c.args.self.now.ends_are 0 (omega arith)) ∙ sym (ap tag_of_word (word-is s))
