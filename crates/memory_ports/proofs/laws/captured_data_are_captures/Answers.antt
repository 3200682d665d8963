use Rattle.memory_ports.proofs.Captures.{capture_is}
use Rattle.memory_ports.proofs.laws.captured_data_are_captures.Goals as goal

pub returns : goal.returns
returns c = λ net w m p k x n memory port read there has reads late leaf is. capture_is net w m p k x n memory port read there has reads late leaf is
