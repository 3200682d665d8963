use Rattle.std.proofs.Common.{refl, ap, ◌∙◌, ◌∷◌, []}
use Rattle.ground_net.specs.declared.ground.Ground.TheVariants.{Mux}
use Rattle.ground_exprs.proofs.choice.one_of_two.Goals as goal

pub returns : goal.returns
returns c = record {
  kind = refl;
  width = c.max-width.ensures;
  one = c.in_ok-first.first;
  other = c.in_ok-second.second;
  expr = ap Mux (c.from_vec.ensures ∙ c.in_ok-items.ensures.items ∙ ap (λ x. x ∷ c.in_ok-first.first.expr ∷ c.in_ok-second.second.expr ∷ []) c.in_ok-copied.ensures);
  one_kind = c.in_ok-first.ensures.kind;
  one_width = c.in_ok-first.ensures.width;
  one_fits = c.in_ok-first.ensures.fits;
  other_kind = c.in_ok-second.ensures.kind;
  other_width = c.in_ok-second.ensures.width;
  other_fits = c.in_ok-second.ensures.fits;
}
