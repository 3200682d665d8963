use Rattle.print_stop.proofs.Typed.{typed_whole}
use Rattle.print_stop.proofs.print_laws.typed_references_name_whole_wires.Goals as goal

pub returns : goal.returns
returns c = λ known scene wire typ width block there is typed. typed_whole known scene wire typ width there is block typed
