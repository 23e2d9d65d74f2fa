-- `write_section` meets its contract: its own line, and those of what it holds, are the lines of the definition.
use Rattle.std.proofs.Common.{◌+◌, length, length-append, refl, ap, arith}
use mathlib.Core.List.{flat_map}
use Rattle.format.specs.Display.{ascii}
use Rattle.sheet.specs.Lines.{line}
use Rattle.sheet.specs.SheetWalk.{plain_at}
use Rattle.to_sheet.specs.Entry.{content_line, name_line, pair_line}
use Rattle.to_sheet.proofs.LineParts.{Stored, first-stored, then-stored, as-line}
use Rattle.to_sheet.proofs.LineWalk.{contents-said, packed-said, names-said, pairs-said, unknown-said}
use Rattle.to_sheet.proofs.section.write_section.Goals as goal

-- ---- plain contents

pub write_plain-next-requires : goal.write_plain-next-requires
write_plain-next-requires c =
    let section = c.args.section in
    let said = contents-said section.payload.now section.kind section.at _ c.in-Contents.ensures in
    omega (arith, c.requires, ap length said, length-append (line (plain_at section.payload.now section.at)) (flat_map content_line c.in-Contents.entries))

pub write_contents-requires : goal.write_contents-requires
write_contents-requires c =
    let section = c.args.section in
    let said = contents-said section.payload.now section.kind section.at _ c.in-Contents.ensures in
    omega (arith, c.requires, c.write_plain-next.ensures.value, ap length said, length-append (line (plain_at section.payload.now section.at)) (flat_map content_line c.in-Contents.entries))

pub returns-in-Contents : goal.returns-in-Contents
returns-in-Contents c =
    let section = c.args.section in
    let said = contents-said section.payload.now section.kind section.at _ c.in-Contents.ensures in
    let one = first-stored c.write_plain-next.ensures.output_after c.write_plain-next.ensures.value in
    let all = as-line said (then-stored (flat_map content_line c.in-Contents.entries) one c.write_contents.ensures.output_after c.write_contents.ensures.value) in
    record { value = all.ends; output_after = all.is }

-- ---- packed contents, and a section of an unknown kind

pub write_packed-requires : goal.write_packed-requires
write_packed-requires c = rw (packed-said c.args.section.payload.now c.args.section.kind c.args.section.at c.in-Packed.ensures) at c.requires

pub returns-in-Packed : goal.returns-in-Packed
returns-in-Packed c = rw (packed-said c.args.section.payload.now c.args.section.kind c.args.section.at c.in-Packed.ensures) c.write_packed.ensures

pub write_unknown-requires : goal.write_unknown-requires
write_unknown-requires c = rw (unknown-said c.args.section.payload.now c.args.section.kind c.args.section.at _ c.in-Unknown.ensures) at c.requires

pub returns-in-Unknown : goal.returns-in-Unknown
returns-in-Unknown c = rw (unknown-said c.args.section.payload.now c.args.section.kind c.args.section.at _ c.in-Unknown.ensures) c.write_unknown.ensures

-- ---- names, and arguments

pub write_names-requires : goal.write_names-requires
unfolding ascii
write_names-requires c =
    let said = names-said c.args.section.payload.now c.args.section.kind c.args.section.at _ c.in-Names.ensures in
    omega (arith, c.requires, ap length said, length-append (ascii "names\n") (flat_map name_line c.in-Names.entries))

pub returns-in-Names : goal.returns-in-Names
unfolding ascii
returns-in-Names c =
    let a = c.args in
    let said = names-said a.section.payload.now a.section.kind a.section.at _ c.in-Names.ensures in
    let one : Stored a.output.now a.to (ascii "names\n") _ (a.to + 6) = first-stored c.write_bytes.ensures refl in
    let all = as-line said (then-stored (flat_map name_line c.in-Names.entries) one c.write_names.ensures.output_after c.write_names.ensures.value) in
    record { value = all.ends; output_after = all.is }

pub write_pairs-requires : goal.write_pairs-requires
unfolding ascii
write_pairs-requires c =
    let said = pairs-said c.args.section.payload.now c.args.section.kind c.args.section.at _ c.in-Arguments.ensures in
    omega (arith, c.requires, ap length said, length-append (ascii "arguments\n") (flat_map pair_line c.in-Arguments.pairs))

pub returns-in-Arguments : goal.returns-in-Arguments
unfolding ascii
returns-in-Arguments c =
    let a = c.args in
    let said = pairs-said a.section.payload.now a.section.kind a.section.at _ c.in-Arguments.ensures in
    let one : Stored a.output.now a.to (ascii "arguments\n") _ (a.to + 10) = first-stored c.write_bytes-in-Arguments.ensures refl in
    let all = as-line said (then-stored (flat_map pair_line c.in-Arguments.pairs) one c.write_pairs.ensures.output_after c.write_pairs.ensures.value) in
    record { value = all.ends; output_after = all.is }
