-- What the words of a command line ask for.
use Rattle.std.specs.Prelude.{◌≡◌, ℕ, ◌≤◌, ⊤, pos, Bool, true, false, List, [], ◌∷◌, map, Option, Some, None, option_map, unwrap_or, if◌then◌else◌, codes}
use Rattle.std.specs.Str.{bytes_eq}
use Rattle.std.specs.Str.Parse.{digits_value, without_leading_plus}
use Rattle.clap.specs.Lexer.{usize_max}
use Rattle.clap.specs.Walk.{is_empty}
use Rattle.clap.specs.Words.{App, IsParsedFrom, Row, Rule, Text, all_of, app_of, fault_of, first_of, matches_of, new_app, new_rule, one_of, rule_of}
use Rattle.clap.specs.declared.builder.action.ArgAction.TheVariants.{Append, Set, SetTrue}
use Rattle.clap.specs.declared.builder.arg.Arg.{Arg}
use Rattle.clap.specs.declared.builder.command.Command.{Command as Clap}
use Rattle.clap.specs.declared.builder.value_parser.ValueParser.{ValueParser}
use Rattle.clap.specs.declared.builder.value_parser.ValueParser.TheVariants.{Signed}
use Rattle.clap.specs.declared.parser.matches.ArgMatches.{ArgMatches}
use Rattle.command_words.specs.declared.command.Command.{Command}
use Rattle.command_words.specs.declared.command.Command.TheVariants as command
use Rattle.command_words.specs.declared.commands.Name.{Name}
use Rattle.command_words.specs.declared.commands.Name.TheVariants as name

-- The arguments as clap has them. An option is set by its word at most once, and a number lies in its range. The words of `LEAF ...` stand in their
-- order, on both sides of an option too.
abbrev pub number_rule : Text → ValueParser → Rule
number_rule id parser = record (new_rule id) { action = Some Set; parser = Some parser }

abbrev pub workers_rule : Rule
workers_rule = record (number_rule (codes "workers") (Signed (pos 1) (pos 64))) { long = Some (codes "workers") }

abbrev pub cycles_rule : Rule
cycles_rule = record (number_rule (codes "cycles") (Signed (pos 1) (pos 4096))) { long = Some (codes "cycles") }

abbrev pub size_rule : Rule
size_rule = record (number_rule (codes "size") (Signed (pos 1) (pos 4096))) { required = true }

abbrev pub refine_rule : Rule
refine_rule = record (new_rule (codes "refine")) { long = Some (codes "refine"); action = Some SetTrue }

abbrev pub circuit_rule : Rule
circuit_rule = new_rule (codes "circuit")

abbrev pub given_circuit_rule : Rule
given_circuit_rule = record circuit_rule { required = true }

abbrev pub stimulus_rule : Rule
stimulus_rule = new_rule (codes "stimulus")

abbrev pub state_rule : Rule
state_rule = new_rule (codes "state")

abbrev pub given_state_rule : Rule
given_state_rule = record state_rule { action = Some Set; required = true }

abbrev pub leaf_rule : Rule
leaf_rule = record (new_rule (codes "leaf")) { action = Some Append; range = Some (record { start_inclusive = 0; end_inclusive = usize_max }) }

-- the code's argument has this rule, in its own command alone
abbrev pub Follows : Rule → Arg → Type 0
Follows rule argument = (rule_of argument ≡ rule) × (argument.global ≡ false)

-- the command of a name, with these arguments and without help and version flags
abbrev pub command_with : Text → List Rule → App
command_with name rules = record (new_app name) { top = record (new_app name).top { rules = rules; disable_help_flag = true; disable_version_flag = true } }

abbrev pub app_named : Name → App
app_named name.Run = command_with (codes "run") (workers_rule ∷ refine_rule ∷ circuit_rule ∷ stimulus_rule ∷ [])
app_named name.Check = command_with (codes "check") (circuit_rule ∷ [])
app_named name.Widths = command_with (codes "widths") (circuit_rule ∷ [])
app_named name.Cut = command_with (codes "cut") (workers_rule ∷ circuit_rule ∷ [])
app_named name.Make = command_with (codes "make") (workers_rule ∷ cycles_rule ∷ size_rule ∷ [])
app_named name.Vcd = command_with (codes "vcd") (workers_rule ∷ given_circuit_rule ∷ leaf_rule ∷ [])
app_named name.Refine = command_with (codes "refine") (workers_rule ∷ circuit_rule ∷ [])
app_named name.Save = command_with (codes "save") (workers_rule ∷ given_circuit_rule ∷ state_rule ∷ [])
app_named name.Resume = command_with (codes "resume") (workers_rule ∷ given_circuit_rule ∷ given_state_rule ∷ [])
app_named name.Log = command_with (codes "log") (workers_rule ∷ circuit_rule ∷ [])

-- clap's matches of a command line, whose first word is the command; none where clap refuses the other words
abbrev pub matched : App → List Text → Option (List Row)
matched app words = if is_empty (fault_of app words) then Some (matches_of app words) else None

-- the code's matches are clap's of this command
abbrev pub AreOf : Name → ArgMatches → Type 0
AreOf name matches = (command : Clap) × (app_of command ≡ app_named name) × IsParsedFrom command matches

-- What a command line asks for, with names as their bytes.
pub data Request : Type 0 where
  Run : (workers : ℕ) (refined : Bool) (circuit : Text) (stimulus : Option Text) → Request
  Check : (circuit : Text) → Request
  Widths : (circuit : Text) → Request
  Cut : (workers : ℕ) (circuit : Text) → Request
  Make : (workers cycles size : ℕ) → Request
  Vcd : (workers : ℕ) (circuit : Text) (leaves : List Text) → Request
  Refine : (workers : ℕ) (circuit : Text) → Request
  Save : (workers : ℕ) (circuit : Text) (state : Option Text) → Request
  Resume : (workers : ℕ) (circuit state : Text) → Request
  Log : (workers : ℕ) (circuit : Text) → Request

-- the same of the code's value
abbrev pub request_of : Command → Request
request_of (command.Run workers refined circuit stimulus) = Run workers refined circuit.now (option_map (λ name. name.now) stimulus)
request_of (command.Check circuit) = Check circuit.now
request_of (command.Widths circuit) = Widths circuit.now
request_of (command.Cut workers circuit) = Cut workers circuit.now
request_of (command.Make workers cycles size) = Make workers cycles size
request_of (command.Vcd workers circuit leaves) = Vcd workers circuit.now (map (λ name. name.now) leaves.items)
request_of (command.Refine workers circuit) = Refine workers circuit.now
request_of (command.Save workers circuit state) = Save workers circuit.now (option_map (λ name. name.now) state)
request_of (command.Resume workers circuit state) = Resume workers circuit.now state.now
request_of (command.Log workers circuit) = Log workers circuit.now

-- the number that a text has in decimal digits, behind a plus or none; and what stands for an argument that wasn't given
abbrev pub number_or : ℕ → Option Text → ℕ
number_or default None = default
number_or default (Some text) = digits_value 10 (without_leading_plus text)

-- whether a flag was given
abbrev pub is_set : Option Text → Bool
is_set None = false
is_set (Some text) = bytes_eq text (codes "true")

-- The arguments of a command by its matches, with their defaults. `N`, the circuit of `vcd`, `save` and `resume`, and the state of
-- `resume` need none, since clap asks for them.
abbrev pub workers_in : List Row → ℕ
workers_in rows = number_or 1 (one_of (codes "workers") rows)

abbrev pub cycles_in : List Row → ℕ
cycles_in rows = number_or 64 (one_of (codes "cycles") rows)

abbrev pub size_in : List Row → ℕ
size_in rows = number_or 0 (one_of (codes "size") rows)

abbrev pub circuit_in : List Row → Text
circuit_in rows = unwrap_or (first_of (codes "circuit") rows) (codes "-")

abbrev pub stimulus_in : List Row → Option Text
stimulus_in rows = first_of (codes "stimulus") rows

abbrev pub state_in : List Row → Option Text
state_in rows = first_of (codes "state") rows

abbrev pub given_state_in : List Row → Text
given_state_in rows = unwrap_or (state_in rows) []

abbrev pub refined_in : List Row → Bool
refined_in rows = is_set (one_of (codes "refine") rows)

abbrev pub leaves_in : List Row → List Text
leaves_in rows = unwrap_or (all_of (codes "leaf") rows) []

abbrev pub request_by : Name → List Row → Request
request_by name.Run rows = Run (workers_in rows) (refined_in rows) (circuit_in rows) (stimulus_in rows)
request_by name.Check rows = Check (circuit_in rows)
request_by name.Widths rows = Widths (circuit_in rows)
request_by name.Cut rows = Cut (workers_in rows) (circuit_in rows)
request_by name.Make rows = Make (workers_in rows) (cycles_in rows) (size_in rows)
request_by name.Vcd rows = Vcd (workers_in rows) (circuit_in rows) (leaves_in rows)
request_by name.Refine rows = Refine (workers_in rows) (circuit_in rows)
request_by name.Save rows = Save (workers_in rows) (circuit_in rows) (state_in rows)
request_by name.Resume rows = Resume (workers_in rows) (circuit_in rows) (given_state_in rows)
request_by name.Log rows = Log (workers_in rows) (circuit_in rows)

-- the command that a word names
abbrev pub name_of : Text → Option Name
name_of word =
    if bytes_eq word (codes "run") then Some name.Run
    else (if bytes_eq word (codes "check") then Some name.Check
    else (if bytes_eq word (codes "widths") then Some name.Widths
    else (if bytes_eq word (codes "cut") then Some name.Cut
    else (if bytes_eq word (codes "make") then Some name.Make
    else (if bytes_eq word (codes "vcd") then Some name.Vcd
    else (if bytes_eq word (codes "refine") then Some name.Refine
    else (if bytes_eq word (codes "save") then Some name.Save
    else (if bytes_eq word (codes "resume") then Some name.Resume
    else (if bytes_eq word (codes "log") then Some name.Log
    else None)))))))))

-- the request of a command line of this command
abbrev pub request_named : Option Name → List Text → Option Request
request_named None words = None
request_named (Some name) words = option_map (request_by name) (matched (app_named name) words)

-- The request of some words: none where there is no first word, it is no command, or clap refuses the others.
abbrev pub command_of : List Text → Option Request
command_of [] = None
command_of (name ∷ rest) = request_named (name_of name) (name ∷ rest)

-- the numbers of a request lie in their ranges
abbrev pub InRange : Request → Type 0
InRange (Run workers refined circuit stimulus) = (1 ≤ workers) × (workers ≤ 64)
InRange (Cut workers circuit) = (1 ≤ workers) × (workers ≤ 64)
InRange (Make workers cycles size) = (1 ≤ workers) × (workers ≤ 64) × (1 ≤ cycles) × (cycles ≤ 4096) × (1 ≤ size) × (size ≤ 4096)
InRange (Vcd workers circuit leaves) = (1 ≤ workers) × (workers ≤ 64)
InRange (Refine workers circuit) = (1 ≤ workers) × (workers ≤ 64)
InRange (Save workers circuit state) = (1 ≤ workers) × (workers ≤ 64)
InRange (Resume workers circuit state) = (1 ≤ workers) × (workers ≤ 64)
InRange (Log workers circuit) = (1 ≤ workers) × (workers ≤ 64)
InRange _ = ⊤
