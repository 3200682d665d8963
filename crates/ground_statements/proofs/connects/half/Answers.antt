use Rattle.ground_statements.proofs.Ends.{half_is}
use Rattle.ground_statements.proofs.connects.half.Goals as goal

pub returns : goal.returns
returns c =
    half_is c.args.view.known.now.entries c.args.view.settable.now c.args.flip c.args.target.now c.in-Ref.name c.in-Ref.suffixes c.as_slice.result.now c.in_ok-named.named.at.typ.now c.in_ok-named.named.part
    c.args.sources c.in_ok-made.made c.in-Ref.is c.as_slice.ensures c.in_ok-named.ensures c.in_ok-made.ensures
