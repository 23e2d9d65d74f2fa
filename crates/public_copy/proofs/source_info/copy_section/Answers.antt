-- `copy_section` meets its contract: what is left of each kind of section is what the definition has.
use Rattle.std.proofs.Common.{◌≡◌, ℕ, ◌+◌, ◌≤◌, List, Ok, length, is_ok, true, refl, sym, ap, ◌∙◌, arith, ◌⊎◌, inl, inr}
use Rattle.layout.proofs.Checked.{is-good}
use Rattle.layout.specs.declared.section_type.SourceInfoSectionType.{SourceInfoSectionType}
use Rattle.layout.specs.declared.section_type.SourceInfoSectionType.TheVariants.{SourceContents, SourceNames}
use Rattle.table.specs.declared.row.Row.{Row}
use Rattle.wire.specs.Number.{u16_at, u32_at}
use Rattle.format.specs.Parse.{entries, name_row_at, parse_section}
use Rattle.format.proofs.SectionLaws.{names-good}
use Rattle.format.proofs.Stands.{length_part}
use Rattle.accepted.specs.Body.{Holds}
use Rattle.accepted.specs.declared.body.Body.{Body}
use Rattle.accepted.specs.declared.body.Body.TheVariants as body
use Rattle.accepted.specs.declared.entries.Entries.{Entries}
use Rattle.public_copy.specs.Hidden.{hidden}
use Rattle.public_copy.proofs.CopyLaws.{contents-left, names-left, arguments-left, unknown-left}
use Rattle.public_copy.proofs.NamesLaws.{section-long, section-span, section-hidden}
use Rattle.public_copy.proofs.source_info.copy_section.Goals as goal

-- ---- contents, plain or packed

of-contents :
    (p : List ℕ) (kind : SourceInfoSectionType) (at : ℕ) {held : Body} →
    ((entries : Entries 12) × (held ≡ body.Contents entries)) ⊎ (held ≡ body.Packed) →
    Holds p kind at held →
    kind ≡ SourceContents
of-contents p kind at (inl (entries, is)) holds = (rw is at holds).0
of-contents p kind at (inr is) holds = (rw is at holds).0

pub write_contents-requires : goal.write_contents-requires
write_contents-requires c =
    let section = c.args.section in
    let is = of-contents section.payload.now section.kind section.at c.in-Contents.is c.body.ensures in
    rw (contents-left section.payload.now section.kind section.at _ _ is (sym c.compression.ensures) c.content_count.ensures) at c.requires

pub returns-in-Contents : goal.returns-in-Contents
returns-in-Contents c =
    let section = c.args.section in
    let is = of-contents section.payload.now section.kind section.at c.in-Contents.is c.body.ensures in
    rw (contents-left section.payload.now section.kind section.at _ _ is (sym c.compression.ensures) c.content_count.ensures) c.write_contents.ensures

-- ---- names, whose entries end within the section

told :
    (p : List ℕ) (at : ℕ) →
    is_ok (parse_section SourceNames p at (u32_at p at)) ≡ true →
    (18 + u16_at p (at + 16) ≤ u32_at p at)
    × ((rest : List Row) × (entries 16 (name_row_at p) (u32_at p (at + 12)) p (at + 18) (at + 18 + u16_at p (at + 16)) ≡ Ok rest))
unfolding parse_section
told p at good =
    let found = is-good _ good in
    let (framed, held, flags) = names-good p at (u32_at p at) found.0 found.1 in
    (framed.within, (held.rest, held.found))

pub hide_sizes-requires : goal.hide_sizes-requires
hide_sizes-requires c =
    let section = c.args.section in
    let p = section.payload.now in
    let (is, all) = c.in-Names.ensures in
    let (least, (rest, found)) = told p section.at (rw is at section.good) in
    let long = ap length (names-left p section.kind section.at is) ∙ section-long p section.at section.within least rest found in
    rw all (omega (arith, c.requires, long, section-span p section.at section.within least rest found))

pub returns-in-Names : goal.returns-in-Names
returns-in-Names c =
    let a = c.args in
    let p = a.section.payload.now in
    let at = a.section.at in
    let (is, all) = c.in-Names.ensures in
    let (least, (rest, found)) = told p at (rw is at a.section.good) in
    rw (names-left p a.section.kind at is)
    (record {
      value = omega (arith, c.copy_bytes-end.ensures.value, section-long p at a.section.within least rest found);
      output_after =
          c.hide_sizes.ensures ∙ ap (λ o. hidden o (a.to + 18) c.in-Names.names) c.copy_bytes-end.ensures.output_after ∙
          rw all (section-hidden p at a.section.within least rest found a.output.now a.to);
    })

-- ---- the others

pub returns-in-Arguments : goal.returns-in-Arguments
returns-in-Arguments c =
    let section = c.args.section in
    let p = section.payload.now in
    let (is, all) = c.in-Arguments.ensures in
    let w = c.copy_bytes.ensures in
    rw (arguments-left p section.kind section.at is) (record { value = omega (arith, w.value, length_part p section.at (u32_at p section.at) section.within); output_after = w.output_after })

pub returns-in-Unknown : goal.returns-in-Unknown
returns-in-Unknown c = rw (unknown-left c.args.section.payload.now c.args.section.kind c.args.section.at _ c.in-Unknown.ensures) (record { value = omega arith; output_after = refl })
