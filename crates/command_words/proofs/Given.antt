-- What clap asks for is there.
use Rattle.std.proofs.Common.{◌≡◌, ◌∙◌, ◌<◌, ◌≤◌, ℕ, zero, suc, true, false, List, [], ◌∷◌, length, map, Option, Some, None, refl, sym, ap, subst, inl, inr, arith, codes, true≢false}
use Rattle.std.specs.Prelude.{is_some, option_map, slice_get}
use Rattle.std.specs.List.{slice_index_or, list_all}
use Rattle.std.specs.Str.{bytes_eq}
use Rattle.std.specs.Borrow.{Bor}
use Rattle.clap.specs.Built.{IsPlain}
use Rattle.clap.specs.Facts.{least_values, unwrap_or_range}
use Rattle.clap.specs.Simple.{has_simple_rules, is_ready, is_ready_leaf}
use Rattle.clap.specs.Faults.{has_free_rules}
use Rattle.clap.specs.Values.{read_as}
use Rattle.clap.specs.Words.{App, IsParsedFrom, Rule, Text, app_of, args_of, first_value, found_of, matched_of, one_text, rule_of}
use Rattle.clap.specs.declared.builder.action.ArgAction.TheVariants.{Set}
use Rattle.clap.specs.declared.builder.arg.Arg.{Arg}
use Rattle.clap.specs.declared.builder.command.Command.{Command}
use Rattle.clap.specs.declared.builder.range.ValueRange.{ValueRange}
use Rattle.clap.specs.declared.builder.value_parser.Reading.{Reading}
use Rattle.clap.specs.declared.parser.matches.ArgMatches.{ArgMatches}
use Rattle.clap.specs.declared.parser.matches.Found.{Found}
use Rattle.clap.specs.declared.parser.matches.MatchedArg.{MatchedArg}
use Rattle.clap.proofs.CallerLemmas.{required_has_value}
use Rattle.clap.proofs.FaultLemmas.{free_args}
use Rattle.clap.proofs.SimpleLemmas.{ready_simple, simple_groups}
use Rattle.clap.proofs.WalkLemmas.{both}
use Rattle.command_words.specs.Commands.{app_named, cycles_rule, given_circuit_rule, given_state_rule, size_rule, workers_rule}
use Rattle.command_words.specs.declared.commands.Name.TheVariants.{Make, Resume}
use Rattle.command_words.proofs.Numbers.{is_own, own_flag, own_name}

-- the three arguments of three rules
three : (xs : List Arg) (r s t : Rule) → map rule_of xs ≡ r ∷ s ∷ t ∷ []
    → (a : Arg) × (b : Arg) × (c : Arg) × (xs ≡ a ∷ b ∷ c ∷ []) × (rule_of a ≡ r) × (rule_of b ≡ s) × (rule_of c ≡ t)
three [] r s t e =
    let bad : ◌≡◌ {A = ℕ} 0 3 = ap length e in
    absurd (omega arith)
three (a ∷ []) r s t e =
    let bad : ◌≡◌ {A = ℕ} 1 3 = ap length e in
    absurd (omega arith)
three (a ∷ b ∷ []) r s t e =
    let bad : ◌≡◌ {A = ℕ} 2 3 = ap length e in
    absurd (omega arith)
three (a ∷ b ∷ c ∷ []) r s t e =
    (a, b, c, refl, ap (λ l. slice_index_or l 0 r) e, ap (λ l. slice_index_or l 1 r) e, ap (λ l. slice_index_or l 2 r) e)
three (a ∷ b ∷ c ∷ d ∷ xs) r s t e =
    let bad : ◌≡◌ {A = ℕ} (suc (suc (suc (suc (length (map rule_of xs)))))) 3 = ap length e in
    absurd (omega arith)

-- only the third of three has its id
third_alone : (a b c : Arg) → bytes_eq a.id.now c.id.now ≡ false → bytes_eq b.id.now c.id.now ≡ false → (j : ℕ) (e : Arg) → j < 3
    → bytes_eq (slice_index_or (a ∷ b ∷ c ∷ []) j e).id.now c.id.now ≡ true → j ≡ 2
third_alone a b c first second zero e low same = absurd (true≢false (sym same ∙ first))
third_alone a b c first second (suc zero) e low same = absurd (true≢false (sym same ∙ second))
third_alone a b c first second (suc (suc zero)) e low same = refl
third_alone a b c first second (suc (suc (suc j))) e low same = absurd (omega arith)

-- the typed getters have a text where the plain one has
read_some : (f : Found) (id : Text) → is_some (first_value f id) ≡ true → is_some (one_text f id) ≡ true
read_some f id has = go (matched_of f id) refl
  where
    value : (how : Reading) (vs : List (Bor Text)) → is_some (option_map (λ s. s.now) (slice_get vs 0)) ≡ true → is_some (option_map (λ s. read_as how s.now) (slice_get vs 0)) ≡ true
    value how [] e = absurd (true≢false (sym e))
    value how (v ∷ vs) e = refl

    go : (o : Option MatchedArg) → matched_of f id ≡ o → is_some (one_text f id) ≡ true
    go None e =
        let bad : false ≡ true = rw e at has in
        absurd (true≢false (sym bad))
    go (Some x) e =
        let first : is_some (option_map (λ s. s.now) (slice_get x.vals.items 0)) ≡ true = rw e at has in
        rw e (value x.reading x.vals.items first)

-- a command excludes nothing where its rules are simple and free
plain_command : (old : Command) → is_ready (app_of old).top ≡ true → list_all is_ready_leaf (app_of old).subs ≡ true → has_free_rules (app_of old).top ≡ true → IsPlain old
plain_command old ready leaves free =
    let rules = both (has_simple_rules (app_of old).top) _ ready in
    let parts = both (app_of old).top.is_plain _ rules.0 in
    let simple = ready_simple old ready leaves in
    let frees = free_args old simple free in (
      λ k d lt.
          let f = frees k d lt in
          (f.exclusive, f.conflicts, f.overrides, simple_groups old parts.1 k d lt),
      simple.groups,
    )

-- A simple command of three arguments, where the third must be given, takes a value, and is the only one of its id.
pub record AsksThird (app : App) (r s t : Rule) : Type 0 where
  pub ready : is_ready app.top ≡ true
  pub leaves : list_all is_ready_leaf app.subs ≡ true
  pub free : has_free_rules app.top ≡ true
  pub negates : app.top.subcommand_negates_reqs ≡ false
  pub rules : app.top.rules ≡ r ∷ s ∷ t ∷ []
  pub first : bytes_eq r.id t.id ≡ false
  pub second : bytes_eq s.id t.id ≡ false
  pub required : t.required ≡ true
  pub set : t.action ≡ Some Set
  pub least : 1 ≤ (unwrap_or_range t.range).start_inclusive
  pub own : is_own t.id ≡ true

-- such a command has its third argument
third_given : (old : Command) (m : ArgMatches) → IsParsedFrom old m → (app : App) → app_of old ≡ app → (r s t : Rule) → AsksThird app r s t
    → is_some (first_value (found_of m) t.id) ≡ true
third_given old m p app same r s t h =
    let ready : is_ready (app_of old).top ≡ true = ap (λ (a : App). is_ready a.top) same ∙ h.ready in
    let leaves : list_all is_ready_leaf (app_of old).subs ≡ true = ap (λ (a : App). list_all is_ready_leaf a.subs) same ∙ h.leaves in
    let free : has_free_rules (app_of old).top ≡ true = ap (λ (a : App). has_free_rules a.top) same ∙ h.free in
    let negates = ap (λ (a : App). a.top.subcommand_negates_reqs) same ∙ h.negates in
    let plain = plain_command old ready leaves free in
    let simple = ready_simple old ready leaves in
    let xs = three (args_of old) r s t (ap (λ (a : App). a.top.rules) same ∙ h.rules) in
    let a = xs.0 in
    let b = xs.1 in
    let c = xs.2 in
    let list : args_of old ≡ a ∷ b ∷ c ∷ [] = xs.3 in
    let elem : slice_index_or (args_of old) 2 c ≡ c = ap (λ l. slice_index_or l 2 c) list in
    let lt : 2 < length (args_of old) = subst (λ l. 2 < length l) (sym list) (omega arith) in
    let rule : rule_of (slice_index_or (args_of old) 2 c) ≡ t = ap rule_of elem ∙ xs.6 in
    let id : (slice_index_or (args_of old) 2 c).id.now ≡ t.id = ap (λ (r : Rule). r.id) rule in
    let c_id : c.id.now ≡ t.id = ap (λ (r : Rule). r.id) xs.6 in
    let first : bytes_eq a.id.now c.id.now ≡ false = rw (c_id, ap (λ (r : Rule). r.id) xs.4) h.first in
    let second : bytes_eq b.id.now c.id.now ≡ false = rw (c_id, ap (λ (r : Rule). r.id) xs.5) h.second in
    let least : 1 ≤ least_values (slice_index_or (args_of old) 2 c) =
    subst (λ (o : Option ValueRange). 1 ≤ (unwrap_or_range o).start_inclusive) (sym (ap (λ (r : Rule). r.range) rule)) h.least in
    let alone : (j : ℕ) (e : Arg) → j < length (args_of old) → bytes_eq (slice_index_or (args_of old) j e).id.now (slice_index_or (args_of old) 2 c).id.now ≡ true → j ≡ 2 =
    λ j e low hit.
    let small : j < 3 = subst (λ l. j < length l) list low in
    let there : bytes_eq (slice_index_or (a ∷ b ∷ c ∷ []) j e).id.now (slice_index_or (args_of old) 2 c).id.now ≡ true =
    subst (λ l. bytes_eq (slice_index_or l j e).id.now (slice_index_or (args_of old) 2 c).id.now ≡ true) list hit in
    third_alone a b c first second j e small (subst (λ (x : Arg). bytes_eq (slice_index_or (a ∷ b ∷ c ∷ []) j e).id.now x.id.now ≡ true) elem there) in
    let has = required_has_value old m p plain (simple.globals) negates 2 c lt
    (ap (λ (r : Rule). r.required) rule ∙ h.required) (ap (λ (r : Rule). r.action) rule ∙ h.set) (simple.args 2 c lt).delimiter least alone
    (λ empty. own_name t.id h.own (sym id ∙ empty))
    (λ auto. own_flag t.id h.own (elim auto [ inl e ↦ inl (sym id ∙ e) | inr e ↦ inr (sym id ∙ e) ])) in
    subst (λ (w : Text). is_some (first_value (found_of m) w) ≡ true) id has

asks_size : AsksThird (app_named Make) workers_rule cycles_rule size_rule
asks_size = record {
  ready = refl;
  leaves = refl;
  free = refl;
  negates = refl;
  rules = refl;
  first = refl;
  second = refl;
  required = refl;
  set = refl;
  least = omega arith;
  own = refl;
}

asks_state : AsksThird (app_named Resume) workers_rule given_circuit_rule given_state_rule
asks_state = record {
  ready = refl;
  leaves = refl;
  free = refl;
  negates = refl;
  rules = refl;
  first = refl;
  second = refl;
  required = refl;
  set = refl;
  least = omega arith;
  own = refl;
}

-- `make` has its number, and `resume` its state
pub size_given : (old : Command) (m : ArgMatches) → IsParsedFrom old m → app_of old ≡ app_named Make → is_some (one_text (found_of m) (codes "size")) ≡ true
size_given old m p same = read_some (found_of m) (codes "size") (third_given old m p (app_named Make) same workers_rule cycles_rule size_rule asks_size)

pub state_given : (old : Command) (m : ArgMatches) → IsParsedFrom old m → app_of old ≡ app_named Resume → is_some (first_value (found_of m) (codes "state")) ≡ true
state_given old m p same = third_given old m p (app_named Resume) same workers_rule given_circuit_rule given_state_rule asks_state
