use Rattle.std.proofs.Common.{◌++◌, ◌∷◌, [], ◌∙◌, Some, sym, ap, map, zip, arith, option_map}
use Rattle.fir_meaning.specs.Components.{design_of, module_named}
use Rattle.plain_cycle.specs.Held.{held}
use Rattle.plain_cycle.specs.Layouts.{site_with}
use Rattle.plain_cycle.specs.Parts.{bares_held}
use Rattle.plain_cycle.proofs.Modules.{mapped_more}
use Rattle.plain_cycle.proofs.Laying.{adds_known}
use Rattle.plain_cycle.proofs.layout.push_place.Goals as goal

pub loop-at-preserved : goal.loop-at-preserved
loop-at-preserved c =
    let ds = c.as_slice-declared.result.now in
    let ts = c.in-Some.parts.types.now in
    let k = c.loop-at.at in
    let d = c.index-declared-at.result in
    let t = c.index-types-at.result in
    let path = c.args.place.now.path.items in
    record {
      sites = mapped_more (site_with path) ds ts k d t c.args.layout.now.sites c.loop-at.layout.sites c.push.new.layout.sites (omega arith) (omega arith) c.index-declared-at.is c.index-types-at.is
          (c.in_ok-push.ensures.sites ∙ ap (λ p. c.loop-at.layout.sites ++ site_with p (held d, t) ∷ []) c.as_slice.ensures.value) c.loop-at.invariant.sites;
      declared = mapped_more (λ both. both.0) ds ts k d t (map held c.args.layout.now.declared.items) (map held c.loop-at.layout.declared.items) (map held c.push.new.layout.declared.items) (omega arith) (omega arith)
          c.index-declared-at.is c.index-types-at.is c.in_ok-push.ensures.declared c.loop-at.invariant.declared;
    }

pub returns : goal.returns
returns c =
    let ts = c.in-Some.parts.types.now in
    adds_known c.args.place.now.path.items (module_named (design_of c.args.fitted.now) c.args.place.now.name) c.as_slice-declared.result.now ts c.loop-at.at c.args.layout.now c.loop-at.layout
    (ap (λ l. Some (zip (map held l) ts)) c.as_slice-declared.ensures.value ∙ (ap (option_map bares_held) (sym c.in-Some.is) ∙ c.in_ok-parts.ensures)) (omega arith) c.loop-at.invariant.sites
    c.loop-at.invariant.declared
