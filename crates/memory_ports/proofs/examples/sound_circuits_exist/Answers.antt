use Rattle.memory_ports.proofs.SoundCircuits.{reader_sound, readwriter_sound}
use Rattle.memory_ports.proofs.examples.sound_circuits_exist.Goals as goal

pub returns-clause-reader : goal.returns-clause-reader
returns-clause-reader c = λ captured. reader_sound captured

pub returns-clause-readwriter : goal.returns-clause-readwriter
returns-clause-readwriter c = λ captured. readwriter_sound captured
