use Rattle.lowering_laws.proofs.Whole.{setting}
use Rattle.assembly_laws.proofs.Shaped.{drivers_shaped}
use Rattle.assembly_laws.proofs.Firsts.{ports_within, inputs_first, memories_within, memories_rising}
use Rattle.assembly_laws.proofs.Registering.{registers_are, resets_shaped}
use Rattle.assembly_laws.proofs.PortsSound.{ports_sound}
use Rattle.assembly_laws.proofs.Rising.{reads_rise}
use Rattle.assembly_laws.proofs.Driven.{drivers_there}
use Rattle.assembly_laws.proofs.sound_laws.flat_circuits_are_sound.Goals as goal

pub returns : goal.returns
returns c = λ fitted well init lowered is driven expanded flat is_flat.
    let z = setting fitted well lowered is driven expanded flat is_flat in
    record {
      ports = ports_within z;
      inputs = inputs_first z;
      driven = drivers_there z (c.initialized_leaves_are_driven.ensures fitted init);
      shapes = drivers_shaped z;
      registers = registers_are z;
      resets = resets_shaped z;
      first = memories_within z;
      rising = memories_rising z;
      reads_rise = reads_rise z;
      memories = ports_sound z;
    }
