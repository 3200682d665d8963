-- What the code's matches of a command give of its numbers.
use Rattle.std.proofs.Common.{◌≡◌, ◌⊎◌, ◌∙◌, ◌<◌, ◌^◌, ℕ, Bool, true, false, List, [], map, Option, Some, None, Result, ap, arith, inl, inr, refl, sym, codes}
use Rattle.std.specs.Prelude.{is_some, option_map, pos, unwrap_or}
use Rattle.std.specs.Borrow.{Bor}
use Rattle.std.specs.Str.{bytes_eq}
use Rattle.std.specs.Str.Parse.{ParsesBool, ParsesUnsigned, ExplainsUnsignedError, HasUnsignedDigitsIfOk}
use Rattle.std.specs.declared.num.ParseIntError.{ParseIntError}
use Rattle.std.proofs.lemmas.Slice.Eq.{bytes_eq-Decides}
use Rattle.clap.specs.Matches.{ReadsOne}
use Rattle.clap.proofs.WalkLemmas.{raw_values-rows}
use Rattle.clap.specs.declared.parser.matches.Found.{Found}
use Rattle.clap.specs.Simple.{has_simple_rules}
use Rattle.clap.specs.Words.{Text, found_of, is_simple_and_free, matched_of, one_of, one_text, raw_values, rows_of}
use Rattle.clap.specs.declared.builder.value_parser.ValueParser.TheVariants.{Signed}
use Rattle.clap.specs.declared.parser.matches.ArgMatches.{ArgMatches}
use Rattle.command_words.specs.Commands.{AreOf, app_named, cycles_in, is_set, leaves_in, number_or, size_in, workers_in}
use Rattle.command_words.specs.declared.commands.Name.{Name}
use Rattle.command_words.specs.declared.commands.Name.TheVariants.{Run, Check, Widths, Cut, Make, Vcd, Refine, Save, Resume, Log}
use Rattle.command_words.proofs.Given.{size_given}
use Rattle.command_words.proofs.Numbers.{HasOnly, IsIn, is_own, number_found}
use Rattle.command_words.proofs.Ranges.{make_cycles, make_size}

pub simple_named : (name : Name) → is_simple_and_free (app_named name) ≡ true
simple_named Run = refl
simple_named Check = refl
simple_named Widths = refl
simple_named Cut = refl
simple_named Make = refl
simple_named Vcd = refl
simple_named Refine = refl
simple_named Save = refl
simple_named Resume = refl
simple_named Log = refl

simple_rules : (name : Name) → has_simple_rules (app_named name).top ≡ true
simple_rules Run = refl
simple_rules Check = refl
simple_rules Widths = refl
simple_rules Cut = refl
simple_rules Make = refl
simple_rules Vcd = refl
simple_rules Refine = refl
simple_rules Save = refl
simple_rules Resume = refl
simple_rules Log = refl

-- what `parse` gives of a text at `u32`
abbrev pub Gives : Text → Result ℕ ParseIntError → Type 0
Gives bs r = ParsesUnsigned 32 10 bs r × ExplainsUnsignedError 10 bs r × HasUnsignedDigitsIfOk bs r

-- what a getter gives of this argument
abbrev pub IsGot : ArgMatches → Text → Option ℕ → Type 0
IsGot m id r = (one_text (found_of m) id ≡ None → r ≡ None) × ((t : Text) → one_text (found_of m) id ≡ Some t → ReadsOne Gives t r)

number_of : (name : Name) (m : ArgMatches) → AreOf name m → (id : Text) (low high default : ℕ) → high < 2 ^ 32 → is_own id ≡ true
    → HasOnly id (Signed (pos low) (pos high)) (app_named name).top.rules → (r : Option ℕ) → IsGot m id r
    → (unwrap_or r default ≡ number_or default (one_of id (rows_of (found_of m))))
    × ((is_some (one_text (found_of m) id) ≡ true) ⊎ IsIn low high default → IsIn low high (unwrap_or r default))
number_of name m of id low high default fits own only r got =
    number_found Gives (λ u x g. g.0) of.0 m of.2 (app_named name) of.1 (simple_rules name) id low high default fits own only r got.0 got.1

-- the number of workers of a command that has no other argument of its name
pub workers_of : (name : Name) (m : ArgMatches) → AreOf name m → HasOnly (codes "workers") (Signed (pos 1) (pos 64)) (app_named name).top.rules
    → (r : Option ℕ) → IsGot m (codes "workers") r → (unwrap_or r 1 ≡ workers_in (rows_of (found_of m))) × IsIn 1 64 (unwrap_or r 1)
workers_of name m of only r got =
    let n = number_of name m of (codes "workers") 1 64 1 (omega arith) refl only r got in
    (n.0, n.1 (inr (omega arith, omega arith)))

pub cycles_of : (m : ArgMatches) → AreOf Make m → (r : Option ℕ) → IsGot m (codes "cycles") r
    → (unwrap_or r 64 ≡ cycles_in (rows_of (found_of m))) × IsIn 1 4096 (unwrap_or r 64)
cycles_of m of r got =
    let n = number_of Make m of (codes "cycles") 1 4096 64 (omega arith) refl make_cycles r got in
    (n.0, n.1 (inr (omega arith, omega arith)))

pub size_of : (m : ArgMatches) → AreOf Make m → (r : Option ℕ) → IsGot m (codes "size") r
    → (unwrap_or r 0 ≡ size_in (rows_of (found_of m))) × IsIn 1 4096 (unwrap_or r 0)
size_of m of r got =
    let n = number_of Make m of (codes "size") 1 4096 0 (omega arith) refl make_size r got in
    (n.0, n.1 (inl (size_given of.0 m of.2 of.1)))

-- a flag
differs_false : (b : Bool) → (b ≡ true → ⊥) → b ≡ false
differs_false true differs = absurd (differs refl)
differs_false false differs = refl

set_text : (E : Type 0) (t : Text) (r : Option Bool) → ReadsOne {E = E} ParsesBool t r → unwrap_or r false ≡ is_set (Some t)
set_text E t (Some true) is = rw is refl
set_text E t (Some false) is = rw is refl
set_text E t None differs = sym (differs_false (bytes_eq t (codes "true")) (λ same. differs.1.0 ((bytes_eq-Decides t (codes "true")).0 same)))

-- what the getter of a flag gives
pub flag_of : (E : Type 0) (o : Option Text) (r : Option Bool) → (o ≡ None → r ≡ None) → ((t : Text) → o ≡ Some t → ReadsOne {E = E} ParsesBool t r)
    → unwrap_or r false ≡ is_set o
flag_of E None r none value = ap (λ x. unwrap_or x false) (none refl)
flag_of E (Some t) r none value = set_text E t r (value t refl)

-- the names of leaves that were lent
pub leaves_lent : (o : Option (Bor (List (Bor Text)))) (f : Found) → option_map (λ s. map (λ v. v.now) s.now) o ≡ option_map raw_values (matched_of f (codes "leaf"))
    → unwrap_or (option_map (λ s. map (λ v. v.now) s.now) o) [] ≡ leaves_in (rows_of f)
leaves_lent o f is = ap (λ x. unwrap_or x []) (is ∙ raw_values-rows f (codes "leaf"))
