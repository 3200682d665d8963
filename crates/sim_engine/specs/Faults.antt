-- How a fault of a circuit is named, and where it is.
use Rattle.std.specs.Prelude.{ℕ, List, Option, Some, None, codes}
use Rattle.place_text.specs.declared.place.Place.{Place}
use Rattle.fir_lexer.specs.Faults.{place_of as place_of_tokens, kind_of as kind_of_tokens}
use Rattle.fir_layout.specs.Faults.{place_of as place_of_layout, kind_of as kind_of_layout}
use Rattle.fir_tree.specs.Faults.{place_of as place_of_grammar, kind_of as kind_of_grammar}
use Rattle.fir_names.specs.Faults.{place_of as place_of_names, kind_of as kind_of_names}
use Rattle.type_check.specs.Faults.{place_of as place_of_types, kind_of as kind_of_types}
use Rattle.size_check.specs.Faults.{place_of as place_of_size, kind_of as kind_of_size}
use Rattle.width_fit.specs.Faults.{place_of as place_of_widths, kind_of as kind_of_widths}
use Rattle.drive_check.specs.Faults.{place_of as place_of_drives, kind_of as kind_of_drives}
use Rattle.clock_check.specs.Faults.{place_of as place_of_clocks, kind_of as kind_of_clocks}
use Rattle.comb_order.specs.Faults.{place_of as place_of_order, kind_of as kind_of_order}
use Rattle.sim_engine.specs.declared.fault.CircuitFault.{CircuitFault}
use Rattle.sim_engine.specs.declared.fault.CircuitFault.TheVariants as fault

-- the name of a fault's kind
abbrev pub kind_name : CircuitFault → List ℕ
kind_name (fault.Lex given) = kind_of_tokens given
kind_name (fault.Layout given) = kind_of_layout given
kind_name (fault.Parse given) = kind_of_grammar given
kind_name (fault.Name given) = kind_of_names given
kind_name (fault.Typing given) = kind_of_types given
kind_name (fault.Size given) = kind_of_size given
kind_name (fault.Width given) = kind_of_widths given
kind_name (fault.Drive given) = kind_of_drives given
kind_name (fault.Clock given) = kind_of_clocks given
kind_name (fault.Order given) = kind_of_order given
kind_name fault.NoMemory = codes "NoMemory"

-- its place; want of memory has none
abbrev pub fault_place : CircuitFault → Option Place
fault_place (fault.Lex given) = place_of_tokens given
fault_place (fault.Layout given) = place_of_layout given
fault_place (fault.Parse given) = place_of_grammar given
fault_place (fault.Name given) = place_of_names given
fault_place (fault.Typing given) = place_of_types given
fault_place (fault.Size given) = place_of_size given
fault_place (fault.Width given) = place_of_widths given
fault_place (fault.Drive given) = place_of_drives given
fault_place (fault.Clock given) = place_of_clocks given
fault_place (fault.Order given) = place_of_order given
fault_place fault.NoMemory = None

-- a stage's fault as the circuit's: what has no place is want of memory, and is said by one variant alone
abbrev pub unless_wanting : Option Place → CircuitFault → CircuitFault
unless_wanting (Some place) given = given
unless_wanting None given = fault.NoMemory
