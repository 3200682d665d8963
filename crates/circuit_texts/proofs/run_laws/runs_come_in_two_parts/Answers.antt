use Rattle.fir_meaning.specs.Components.{design_of}
use Rattle.std.proofs.Common.{None}
use Rattle.circuit_texts.specs.StimulusParts.{first_part}
use Rattle.circuit_texts.proofs.Sound.{its_net_serves, well_formed_is_sound}
use Rattle.circuit_texts.proofs.Anew.{from_trace}
use Rattle.circuit_texts.proofs.Split.{held_of, comes_in_two_parts}
use Rattle.circuit_texts.proofs.run_laws.runs_come_in_two_parts.Goals as goal

pub returns-clause-resumed : goal.returns-clause-resumed
returns-clause-resumed c = λ texts fitted well none ports are stimulus formed begin a within whole front saved back w f v k.
    comes_in_two_parts texts (design_of fitted) (well_formed_is_sound texts fitted well none) ports are stimulus formed begin a within whole front saved back w f v k

pub returns-clause-traces : goal.returns-clause-traces
returns-clause-traces c = λ texts fitted well none ports are stimulus formed a within whole front saved back w f v k.
    let sound = well_formed_is_sound texts fitted well none in
    let held = held_of v.begins in
    let serves = its_net_serves sound held.net held.of in
    comes_in_two_parts texts (design_of fitted) sound ports are stimulus formed None a within whole front saved back
    (from_trace texts (design_of fitted) held.net serves stimulus whole w) (from_trace texts (design_of fitted) held.net serves (first_part a stimulus) front f) v k
