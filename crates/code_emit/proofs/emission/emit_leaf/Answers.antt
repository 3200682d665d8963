use Rattle.std.proofs.Common.{Some, option_map, sym, ap, ◌∙◌, refl}
use Rattle.ground_net.specs.declared.ground.Ground.TheVariants.{Leaf}
use Rattle.ground_net.proofs.Shaping.{shape-Leaf}
use Rattle.code_emit.specs.Emits.{sources_table, source_shape}
use Rattle.code_emit.proofs.Shaped.{ok_so}
use Rattle.code_emit.proofs.Arms.{leaf_there}
use Rattle.code_emit.proofs.Emitting.{leaf_emits}
use Rattle.code_emit.proofs.Spanning.{leaf_spans}
use Rattle.code_emit.proofs.emission.emit_leaf.Goals as goal

pub source_of-requires : goal.source_of-requires
source_of-requires c = leaf_there c.args.sources.now (Leaf c.args.leaf) c.args.leaf c.requires refl

pub returns-clause-shape : goal.returns-clause-shape
returns-clause-shape c =
    let S = c.args.sources.now in
    ok_so c.fetch.result c.fetch.ensures.shape (λ s h. shape-Leaf c.args.leaf (sources_table S) ∙ (ap (option_map source_shape) c.source_of.ensures ∙ ap Some (sym h)))

pub returns-clause-emits : goal.returns-clause-emits
returns-clause-emits c =
    ok_so c.fetch.result c.fetch.ensures.makes (λ s m. leaf_emits c.args.sources.now (Leaf c.args.leaf) c.args.leaf c.source_of.result c.args.draft.now c.fetch.new.draft s refl c.source_of.ensures m)

pub returns-clause-spans : goal.returns-clause-spans
returns-clause-spans c =
    ok_so c.fetch.result c.fetch.ensures.step (λ s st. leaf_spans c.args.sources.now (Leaf c.args.leaf) c.args.leaf c.source_of.result c.args.draft.now c.fetch.new.draft s refl c.source_of.ensures st)
