use Rattle.std.proofs.Common.{◌≡◌, ◌-◌, sym, subst, ap, ◌∙◌, drop, List, arith, false}
use Rattle.fir_types.specs.declared.fir_type.Field.{Field}
use Rattle.type_index.specs.Numbers.{HaveNumber, field_number}
use Rattle.type_index.specs.Parts.{AreParts}
use Rattle.type_index.specs.Sights.{table_of}
use Rattle.type_index.proofs.Made.{have_all, have_before}
use Rattle.type_index.proofs.numbering.number_parts.Goals as goal

pub loop-left-preserved : goal.loop-left-preserved
loop-left-preserved c =
    let table = table_of c.args.classes.now in
    record {
      within = omega arith;
      have = have_before table c.args.parts.now (c.loop-left.left - 1) c.loop-left.left c.loop-left.after c.in_ok-after.after (record { name = 0; flip = false; class = 0 })
          (omega arith) (omega arith) c.loop-left.invariant.have (ap (field_number table) (sym c.before-in-loop-left.ensures) ∙ sym c.in_ok-after.ensures);
    }

pub loop-left-init : goal.loop-left-init
loop-left-init c = record { within = omega arith; have = have_all (table_of c.args.classes.now) c.args.parts.now }

pub returns : goal.returns
returns c =
    let none : c.loop-left.left ≡ 0 = omega arith in
    subst (λ i. (fields : List Field) → AreParts (table_of c.args.classes.now) fields (drop i c.args.parts.now) → HaveNumber (table_of c.args.classes.now) fields c.loop-left.after)
    none c.loop-left.invariant.have
