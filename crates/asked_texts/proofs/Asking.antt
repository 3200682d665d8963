-- What is asked.
use Rattle.std.proofs.Common.{◌≡◌, ◌∙◌, ℕ, List, Option, Some, None, sym, ap}
use Rattle.std.specs.Prelude.{option_map}
use Rattle.std.proofs.lemmas.Option.{same_Some}
use Rattle.command_words.specs.declared.command.Command.{Command}
use Rattle.command_words.specs.Commands.{Request, command_of, request_of}
use Rattle.asked_texts.specs.Commands.{Question, asked_by, question_of}

-- what was read of some words
abbrev pub IsReadFrom : Option Command → List (List ℕ) → Type 0
IsReadFrom o words = option_map request_of o ≡ command_of words

command_asked : (o : Option Command) (command : Command) (words : List (List ℕ)) → o ≡ Some command → IsReadFrom o words → command_of words ≡ Some (request_of command)
command_asked o command words e h = sym h ∙ ap (option_map request_of) e

pub none_asked : (o : Option Command) (words : List (List ℕ)) → o ≡ None → IsReadFrom o words → asked_by words ≡ None
none_asked o words e h = ap question_of (sym h ∙ ap (option_map request_of) e)

pub none_requested : (o : Option Command) (words : List (List ℕ)) (request : Request) → o ≡ None → IsReadFrom o words → command_of words ≡ Some request → ⊥
none_requested o words request e h is = let bad : None ≡ Some request = sym (sym h ∙ ap (option_map request_of) e) ∙ is in cc

pub order_asked : (o : Option Command) (command : Command) (words : List (List ℕ)) (question : Question) → o ≡ Some command → IsReadFrom o words
    → question_of (Some (request_of command)) ≡ Some question → asked_by words ≡ Some question
order_asked o command words question e h is = ap question_of (command_asked o command words e h) ∙ is

pub request_asked : (o : Option Command) (command : Command) (words : List (List ℕ)) (request : Request) → o ≡ Some command → IsReadFrom o words
    → command_of words ≡ Some request → request_of command ≡ request
request_asked o command words request e h is = same_Some (request_of command) request (sym (command_asked o command words e h) ∙ is)
