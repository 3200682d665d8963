use Rattle.std.proofs.Common.{◌≡◌, ◌∙◌, refl, ap, subst, map}
use Rattle.std.specs.Prelude.{IfSome}
use Rattle.fir_types.specs.Indexes.{IsIndexOf}
use Rattle.type_index.specs.Knowing.{places_of}
use Rattle.type_index.proofs.Built.{bundle_matches}
use Rattle.type_index.proofs.gathered.Gathered.finish.Goals as goal

pub returns : goal.returns
returns c =
    let weighed : c.as_slice-2.result.now ≡ map places_of c.args.self.parts = c.as_slice-2.ensures.value ∙ c.in_ok-weights.ensures ∙ ap (map places_of) c.as_slice.ensures in
    let among = subst (λ weights. IfSome c.in_ok-among.among (λ index. IsIndexOf index c.args.fields.now weights)) weighed c.in_ok-among.ensures in
    rw c.in_ok-new.ensures
    (λ texts typ is g. bundle_matches texts typ c.args.fields.now c.args.self c.in_ok-among.among _ is g among refl refl refl refl refl refl refl)
