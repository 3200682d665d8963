use Rattle.part_compile.proofs.Fitting.{register_fits, write_fits}
use Rattle.part_compile.proofs.Capturing.{capture_fits}
use Rattle.part_compile.proofs.frame_laws.sinks_fit.Goals as goal

pub returns-clause-register : goal.returns-clause-register
returns-clause-register c = register_fits

pub returns-clause-write : goal.returns-clause-write
returns-clause-write c = write_fits

pub returns-clause-capture : goal.returns-clause-capture
returns-clause-capture c = capture_fits
