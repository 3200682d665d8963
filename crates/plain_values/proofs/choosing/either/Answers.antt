use Rattle.std.proofs.Common.{◌≡◌, ◌+◌, ◌++◌, List, [], ◌∷◌, arith, sym, ap, ap₂, map, take, zip, ◌∙◌}
use Rattle.std.proofs.lemmas.Grind.{common_steps}
use Rattle.std.proofs.lemmas.List.{map-append}
use Rattle.bit_words.specs.declared.value.Value.{Value}
use Rattle.fir_meaning.specs.Values.{one_of_two}
use Rattle.plain_values.proofs.Lists.{zip_take, zip_more}
use Rattle.plain_values.proofs.choosing.either.Goals as goal

pub loop-at-preserved : goal.loop-at-preserved
loop-at-preserved c =
    let xs = c.args.firsts.now in
    let ys = c.args.seconds.now in
    let at = c.loop-at.at in
    let x = c.index-firsts-at.result in
    let y = c.index-seconds-at.result in
    let one = λ (both : Value × Value). one_of_two c.args.first both.0 both.1 in
    let more = zip_more xs ys at x y (omega arith) (omega arith) c.index-firsts-at.is c.index-seconds-at.is in
    let value : c.one_of_two.result ≡ one (x, y) = grind (arith, common_steps, c.one_of_two.ensures, c.index-firsts-at.is, c.index-seconds-at.is) in
    c.in_ok-push.ensures.ok ∙ (ap₂ (λ l v. l ++ v ∷ []) c.loop-at.invariant value ∙ sym (ap (map one) more ∙ map-append one (zip (take at xs) (take at ys)) ((x, y) ∷ [])))

pub returns : goal.returns
returns c =
    c.loop-at.invariant ∙ ap (map (λ both. one_of_two c.args.first both.0 both.1)) (zip_take c.args.firsts.now c.args.seconds.now c.loop-at.at (omega arith))
