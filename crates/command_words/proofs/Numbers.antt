-- What a typed getter reads of an argument that has a range.
use Rattle.std.proofs.Common.{◌≡◌, ◌⊎◌, ◌∙◌, ◌<◌, ◌≤◌, ◌^◌, ℕ, zero, suc, Bool, true, ◌&&◌, not, true≢false, List, [], ◌∷◌, length, map, Option, Some, None, Result, Ok, refl, sym, ap, subst, inl, inr, arith, codes}
use Rattle.std.specs.List.{All, slice_index_or}
use Rattle.std.specs.Str.{bytes_eq}
use Rattle.std.specs.Str.Parse.{ParsesUnsigned}
use Rattle.std.specs.Prelude.{⊤, is_some, option_map, slice_get, unwrap_or, pos}
use Rattle.std.specs.Borrow.{Bor}
use Rattle.std.proofs.lemmas.Bool.{cases_lt}
use Rattle.std.proofs.lemmas.List.Elements.{All-get_or}
use Rattle.std.proofs.lemmas.Slice.Eq.{bytes_eq-Decides}
use Rattle.clap.specs.Built.{IsAuto, SameRules}
use Rattle.clap.specs.Facts.{Entry, EntryPasses, HasReading, PassesArg, ValuesPass, parser_of_value}
use Rattle.clap.specs.Matches.{ReadsOne}
use Rattle.clap.specs.Simple.{has_simple_rules}
use Rattle.clap.specs.Values.{IsSignedIn}
use Rattle.clap.specs.Words.{Accepts, App, BuildsTo, IsParsedFrom, Rule, Text, app_of, args_of, found_of, groups_of, matched_of, one_of, one_text, read_as, reading_of, rows_of, rule_of, without_minus}
use Rattle.clap.specs.declared.builder.arg.Arg.{Arg}
use Rattle.clap.specs.declared.builder.command.Command.{Command}
use Rattle.clap.specs.declared.builder.value_parser.Reading.{Reading}
use Rattle.clap.specs.declared.builder.value_parser.ValueParser.{ValueParser}
use Rattle.clap.specs.declared.builder.value_parser.ValueParser.TheVariants.{Signed}
use Rattle.clap.specs.declared.parser.matches.ArgMatches.{ArgMatches}
use Rattle.clap.specs.declared.parser.matches.Found.{Found}
use Rattle.clap.specs.declared.parser.matches.MatchedArg.{MatchedArg}
use Rattle.clap.proofs.CallerLemmas.{entry_by_id}
use Rattle.clap.proofs.CallerReads.{signed_reads}
use Rattle.clap.proofs.SimpleLemmas.{is_false, plain_fields, simple_groups}
use Rattle.clap.proofs.WalkLemmas.{both, one_text-rows}
use Rattle.command_words.specs.Commands.{number_or}

-- each rule of this id has this parser
abbrev pub HasOnly : Text → ValueParser → List Rule → Type 0
HasOnly id parser [] = ⊤
HasOnly id parser (rule ∷ rules) = (bytes_eq rule.id id ≡ true → rule.parser ≡ Some parser) × HasOnly id parser rules

parser_at : (id : Text) (q : ValueParser) (xs : List Arg) → HasOnly id q (map rule_of xs) → (j : ℕ) (d : Arg) → j < length xs
    → bytes_eq (slice_index_or xs j d).id.now id ≡ true → (slice_index_or xs j d).value_parser ≡ Some q
parser_at id q [] only j d lt same = absurd (omega arith)
parser_at id q (x ∷ xs) only zero d lt same = only.0 same
parser_at id q (x ∷ xs) only (suc j) d lt same = parser_at id q xs only.1 j d (omega arith) same

-- each argument of the command that has this id has this parser
abbrev pub ReadsBy : Command → Text → ValueParser → Type 0
ReadsBy b id q = (j : ℕ) (x : Arg) → j < length (args_of b) → slice_index_or (args_of b) j x ≡ x → bytes_eq x.id.now id ≡ true → x.value_parser ≡ Some q

-- building adds no argument of the id, which is no name of a flag for help or the version
pub built_reads : (old b : Command) → BuildsTo old b → (id : Text) (q : ValueParser) → HasOnly id q (map rule_of (args_of old))
    → ((id ≡ codes "help") ⊎ (id ≡ codes "version") → ⊥) → ReadsBy b id q
built_reads old b from id q only own j x high at same =
    let is : x.id.now ≡ id = (bytes_eq-Decides x.id.now id).0 same in
    elim (cases_lt j (length (args_of old))) [
      | inl under ↦
          let s = subst (λ w. SameRules (slice_index_or (args_of old) j x) w) at (from.kept j x under).1 in
          let old_same : bytes_eq (slice_index_or (args_of old) j x).id.now id ≡ true = rw (← s.id) same in
          s.parser q (parser_at id q (args_of old) only j x under old_same)
      | inr over ↦
          let flag = subst IsAuto at (from.extra j x over high) in
          absurd (own (elim flag [ inl h ↦ inl (sym is ∙ h) | inr h ↦ inr (sym is ∙ h) ]))
    ]

abbrev pub IsIn : ℕ → ℕ → ℕ → Type 0
IsIn low high n = (low ≤ n) × (n ≤ high)

-- a text that was given, and what a getter makes of it
abbrev pub IsRead : ℕ → ℕ → Text → Type 0
IsRead low high t = (v : Text) × (t ≡ without_minus v) × IsSignedIn (pos low) (pos high) v

accepted : (b : Command) (id : Text) (low high : ℕ) (v : Text) → ReadsBy b id (Signed (pos low) (pos high)) → PassesArg b id v → IsSignedIn (pos low) (pos high) v
accepted b id low high v reads pass =
    let is = reads pass.0 pass.1 pass.2 pass.3 pass.4.0 in
    subst (λ (w : ValueParser). Accepts pass.1.ignore_case w v) (ap parser_of_value is) pass.4.1

bare : (b : Command) (id : Text) (low high : ℕ) (how : Reading) → ReadsBy b id (Signed (pos low) (pos high)) → HasReading b id how
    → how ≡ reading_of (Signed (pos low) (pos high))
bare b id low high how reads any =
    let is = reads any.0 any.1 any.2 any.3 any.4.0 in
    sym any.4.1 ∙ ap (λ o. reading_of (parser_of_value o)) is

first_read : (b : Command) (id : Text) (low high : ℕ) (how : Reading) (vs : List (Bor Text)) (t : Text) → ReadsBy b id (Signed (pos low) (pos high))
    → how ≡ reading_of (Signed (pos low) (pos high)) → All (λ v. PassesArg b id v.now) vs
    → option_map (λ s. read_as how s.now) (slice_get vs 0) ≡ Some t → IsRead low high t
first_read b id low high how [] t reads is all has = cc
first_read b id low high how (v ∷ vs) t reads is all has =
    let pass = All-get_or (λ (w : Bor Text). PassesArg b id w.now) (v ∷ vs) 0 v (omega arith) all in
    let text : read_as how v.now ≡ t = ap (λ (o : Option Text). unwrap_or o []) has in
    (v.now, sym text ∙ ap (λ h. read_as h v.now) is, accepted b id low high v.now reads pass)

entry_read : (b : Command) (id : Text) (low high : ℕ) (e : Entry) (t : Text) → groups_of b ≡ [] → (id ≡ [] → ⊥)
    → ReadsBy b id (Signed (pos low) (pos high)) → e.0.now ≡ id → EntryPasses b e
    → option_map (λ s. read_as e.1.reading s.now) (slice_get e.1.vals.items 0) ≡ Some t → IsRead low high t
entry_read b id low high e t no_groups named reads key pass has =
    let no_group : e.1.is_group ≡ true → ⊥ = λ g. elim (pass.3 g) [
      | inl empty ↦ named (sym key ∙ empty)
      | inr lots ↦
          let bad : 0 < 0 = rw no_groups at lots in
          absurd (omega arith)
    ] in
    let all : All (λ v. PassesArg b id v.now) e.1.vals.items = elim pass.0 [
      | inl g ↦ absurd (no_group g)
      | inr vals ↦ subst (λ (w : Text). All (λ v. PassesArg b w v.now) e.1.vals.items) key vals
    ] in
    let how : HasReading b id e.1.reading = elim pass.4 [
      | inl g ↦ absurd (no_group g)
      | inr h ↦ subst (λ (w : Text). HasReading b w e.1.reading) key h
    ] in
    first_read b id low high e.1.reading e.1.vals.items t reads (bare b id low high e.1.reading reads how) all has

-- the text of such an argument lies in the range
pub text_read : (b : Command) (f : Found) (id : Text) (low high : ℕ) → ValuesPass b f → groups_of b ≡ [] → (id ≡ [] → ⊥)
    → ReadsBy b id (Signed (pos low) (pos high)) → (t : Text) → one_text f id ≡ Some t → IsRead low high t
text_read b f id low high values no_groups named reads t has = go (matched_of f id) refl
  where
    go : (o : Option MatchedArg) → matched_of f id ≡ o → IsRead low high t
    go None e =
        let bad : None ≡ Some t = rw e at has in
        cc
    go (Some x) e =
        let got = entry_by_id (EntryPasses b) f.entries.items id x values e in
        let value : option_map (λ s. read_as x.reading s.now) (slice_get x.vals.items 0) ≡ Some t = rw e at has in
        let own : option_map (λ s. read_as got.0.1.reading s.now) (slice_get got.0.1.vals.items 0) ≡ Some t =
        subst (λ (y : MatchedArg). option_map (λ s. read_as y.reading s.now) (slice_get y.vals.items 0) ≡ Some t) (sym got.1) value in
        entry_read b id low high got.0 t no_groups named reads ((bytes_eq-Decides got.0.0.now id).0 got.2) got.3 own

-- What the getter gives: the number of the text, or that there is none.
number_read : {E : Type 0} (G : Text → Result ℕ E → Type 0) (low high default : ℕ) → high < 2 ^ 32
    → ((u : Text) (x : Result ℕ E) → G u x → ParsesUnsigned 32 10 u x)
    → (o : Option Text) → ((t : Text) → o ≡ Some t → IsRead low high t) → (r : Option ℕ) → (o ≡ None → r ≡ None) → ((t : Text) → o ≡ Some t → ReadsOne G t r)
    → (unwrap_or r default ≡ number_or default o) × ((is_some o ≡ true) ⊎ IsIn low high default → IsIn low high (unwrap_or r default))
number_read {E} G low high default fits only None given r none value =
    let is : r ≡ None = none refl in
    rw is (refl, λ side. elim side [ inl h ↦ absurd (true≢false (sym h)) | inr h ↦ h ])
number_read {E} G low high default fits only (Some t) given r none value =
    let v = given t refl in
    let reads : ReadsOne G (without_minus v.0) r = subst (λ (u : Text). ReadsOne G u r) v.1 (value t refl) in
    let n = signed_reads E G 32 low high v.0 r reads only fits v.2 in
    let parsed = only t (Ok n.0) (subst (λ (o : Option ℕ). ReadsOne G t o) n.1 (value t refl)) in
    rw n.1 (parsed.1, λ side. (n.2, n.3))

-- an id that isn't empty and is no flag's for help or the version
abbrev pub is_own : Text → Bool
is_own id = not (bytes_eq id []) && (not (bytes_eq id (codes "help")) && not (bytes_eq id (codes "version")))

other_text : (id other : Text) → not (bytes_eq id other) ≡ true → id ≡ other → ⊥
other_text id other differs same = true≢false (sym ((bytes_eq-Decides id other).1 same) ∙ is_false _ differs)

pub own_name : (id : Text) → is_own id ≡ true → id ≡ [] → ⊥
own_name id own = other_text id [] (both (not (bytes_eq id [])) _ own).0

pub own_flag : (id : Text) → is_own id ≡ true → (id ≡ codes "help") ⊎ (id ≡ codes "version") → ⊥
own_flag id own auto =
    let rest = both (not (bytes_eq id (codes "help"))) _ (both (not (bytes_eq id [])) _ own).1 in
    elim auto [ inl h ↦ other_text id (codes "help") rest.0 h | inr h ↦ other_text id (codes "version") rest.1 h ]

-- A getter's number by the rows, and that it lies in the range, where it was given or the default does.
pub number_found : {E : Type 0} (G : Text → Result ℕ E → Type 0) → ((u : Text) (x : Result ℕ E) → G u x → ParsesUnsigned 32 10 u x)
    → (old : Command) (m : ArgMatches) → IsParsedFrom old m → (plain : App) → app_of old ≡ plain → has_simple_rules plain.top ≡ true
    → (id : Text) (low high default : ℕ) → high < 2 ^ 32 → is_own id ≡ true → HasOnly id (Signed (pos low) (pos high)) plain.top.rules
    → (r : Option ℕ) → (one_text (found_of m) id ≡ None → r ≡ None) → ((t : Text) → one_text (found_of m) id ≡ Some t → ReadsOne G t r)
    → (unwrap_or r default ≡ number_or default (one_of id (rows_of (found_of m))))
    × ((is_some (one_text (found_of m) id) ≡ true) ⊎ IsIn low high default → IsIn low high (unwrap_or r default))
number_found {E} G gives old m p plain same simple id low high default fits own only r none value =
    let rules : has_simple_rules (app_of old).top ≡ true = ap (λ (a : App). has_simple_rules a.top) same ∙ simple in
    let parts = both (app_of old).top.is_plain _ rules in
    let fields = plain_fields old parts.0 in
    let no_groups : groups_of p.built ≡ [] = (p.from.same_groups (simple_groups old parts.1)).1 ∙ fields.groups in
    let values = (p.parsed (p.from.globals ∙ fields.globals)).values in
    let old_only : HasOnly id (Signed (pos low) (pos high)) (app_of old).top.rules =
    subst (λ (a : App). HasOnly id (Signed (pos low) (pos high)) a.top.rules) (sym same) only in
    let reads = built_reads old p.built p.from id (Signed (pos low) (pos high)) old_only (own_flag id own) in
    let texts = text_read p.built (found_of m) id low high values no_groups (own_name id own) reads in
    let read = number_read G low high default fits gives (one_text (found_of m) id) texts r none value in
    (read.0 ∙ ap (number_or default) (one_text-rows (found_of m) id), read.1)
