-- `next` meets its contract: the section that was found ends within the payload, so that its end is a place.
use Rattle.std.proofs.Common.{arith, sym}
use Rattle.format.proofs.FrameLaws.{frame-good}
use Rattle.section_reader.proofs.Taken.{section-found}
use Rattle.section_reader.proofs.reader.SectionReader.next.Goals as goal

pub overflow_add-self : goal.overflow_add-self
overflow_add-self c =
    let found = section-found c.args.self.now.payload.now c.args.self.now.at _ _ (sym c.in_ok-section.ensures) in
    let within = (frame-good _ _ _ found.sized).within in
    omega (arith, within)
