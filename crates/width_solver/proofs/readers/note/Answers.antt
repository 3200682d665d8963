use Rattle.width_solver.proofs.Variables.{variables_within}
use Rattle.width_solver.proofs.readers.note.Goals as goal

pub note_all-requires : goal.note_all-requires
note_all-requires c = record { within = rw (c.as_slice.ensures.value, c.in_ok-push_variables.ensures, c.new-read.ensures.items) (variables_within _ _ c.requires.fits) }
