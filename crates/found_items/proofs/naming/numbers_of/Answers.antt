use Rattle.std.proofs.Common.{rules, ◌≡◌, ◌+◌, ◌≤◌, length, take, Some, None, bytes_eq, sym, ap, ap₂, ◌∙◌, arith}
use Rattle.std.specs.Prelude.{slice_get}
use Rattle.std.proofs.lemmas.List.{take_all, length-take-le}
use Rattle.std.proofs.lemmas.Option.{slice_get_within}
use Rattle.found_items.proofs.Lists.{take_at, past_end}
use Rattle.found_items.proofs.Texts.{first_of, first_more, first_has, first_taken, or_new}
use Rattle.found_items.proofs.naming.numbers_of.Goals as goal

pub returns-in_default : goal.returns-in_default
returns-in_default c = λ text has small.
    let names = c.args.names.now in
    let number = c.loop-number.number in
    let none : slice_get names number ≡ None = search rules in
    c.loop-number.invariant.numbers text ∙ ap (first_of 0 text) (take_all number names (past_end names number none)) ∙ first_has 0 text names has ∙ ap Some (omega arith)

pub returns : goal.returns
returns c = λ text has small.
    let names = c.args.names.now in
    let all : 4294967296 ≤ c.loop-number.number = search rules in
    c.loop-number.invariant.numbers text ∙ first_taken 0 text names c.loop-number.number has (omega (arith, small, all)) ∙ ap Some (omega arith)

pub loop-number-preserved : goal.loop-number-preserved
loop-number-preserved c =
    let names = c.args.names.now in
    let number = c.loop-number.number in
    let inv = c.loop-number.invariant in
    let t = c.in-Some.text.now in
    let there : slice_get names number ≡ Some t = search rules in
    let below = slice_get_within names number t there in
    let long : length (take number names) ≡ number = length-take-le number names inv.within in
    let at : number ≡ 0 + length (take number names) = omega (arith, long) in
    record {
      numbers = λ text. c.in_ok-note.ensures text ∙ ap₂ (λ o b. or_new o b number) (inv.numbers text) (ap (λ b. bytes_eq b text) c.as_bytes.ensures.value)
          ∙ sym (ap (first_of 0 text) (take_at names number t there) ∙ first_more 0 text (take number names) t ∙ sym (ap (λ n. or_new (first_of 0 text (take number names)) (bytes_eq t text) n) at));
      within = omega (arith, below);
    }
