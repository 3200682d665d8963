use Rattle.std.proofs.Common.{◌-◌, ◌≤◌, length}
use Rattle.stimulus.specs.Words.{behind}
use Rattle.stimulus.specs.Reading.{lines_after, shown, IsReadTo}
use Rattle.stimulus.proofs.reading.read_settings.Given as goal

abbrev pub invariant-lines : goal.invariant-lines
invariant-lines l = record {
  read : IsReadTo l.reading.bytes.now l.reading.ports.now l.reading.cycles (lines_after l.reading.bytes.now (behind (shown l.fn.word))) l.at l.progress.last l.progress.set_in l.progress.settings;
  within : l.at ≤ length l.reading.bytes.now;
}

abbrev pub decreases-lines : goal.decreases-lines
decreases-lines l = length l.reading.bytes.now - l.at
