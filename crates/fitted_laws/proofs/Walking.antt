-- What the walks of the checks through statements come to, part by part.
use Rattle.std.proofs.Common.{◌≡◌, ℕ, ◌+◌, ◌<◌, Bool, true, ◌&&◌, List, [], ◌∷◌, ◌++◌, map, length, Some, None, refl, sym, ap, ap₂, ◌∙◌, subst, arith, slice_get, ◌⊎◌, inl, inr, ⊎_elim, append_assoc, append-nil, length-append}
use Rattle.std.proofs.lemmas.List.Elements.{Contains-append_left, Contains-append_right, Contains-append_cases}
use Rattle.std.specs.Prelude.{Contains, nat_eq, is_some}
use Rattle.std.specs.List.{AllZip}
use Rattle.std.specs.Map.{lookup}
use Rattle.fir_types.specs.declared.fir_type.FirType.{FirType}
use Rattle.fir_types.specs.declared.name.Name.{Name}
use Rattle.prim_ops.specs.declared.widths.Width.{Width}
use Rattle.fir_tree.specs.declared.circuit.Module.{Module}
use Rattle.fir_tree.specs.Parts.{instance_in}
use Rattle.type_check.specs.Parts as check
use Rattle.type_check.specs.Statements as checking
use Rattle.width_rules.specs.declared.component.Component.{Component}
use Rattle.width_rules.specs.declared.rule.Formula.{Formula}
use Rattle.width_rules.specs.declared.rule.Formula.TheVariants as formula
use Rattle.width_rules.specs.declared.rule.Rule.{Rule}
use Rattle.width_rules.specs.Formulas.{width_under}
use Rattle.width_rules.specs.Circuits as ruling
use Rattle.width_rules.specs.Circuits.{WithPorts}
use Rattle.width_rules.proofs.Bounds.{Each, each_append}
use Rattle.width_fit.specs.Judging as judging
use Rattle.width_fit.specs.Judging.{Solved}
use Rattle.fir_meaning.specs.Components.{Declaration}
use Rattle.fir_meaning.specs.WellTyped.{Known}
use Rattle.fir_names.specs.Extents.{Seen, Use}
use Rattle.fir_names.specs.Parts as parts
use Rattle.fir_names.specs.Parts.{Part}
use Rattle.circuit_laws.specs.Names.{Every}
use Rattle.circuit_laws.proofs.Alone.{every-append, every-left, every-right}
use Rattle.circuit_laws.proofs.Scoping.{IsNamed, AllNamed}
use Rattle.fitted_laws.proofs.Steps.{left_empty, right_empty}
use Rattle.fitted_laws.proofs.Expressions.{TKnown, WKnown, Knows, Filled, IsIn}
use Rattle.fitted_laws.proofs.Known.{Marks, Marked, RuleMarked, get_more, more_rule}
use Rattle.fir_names.proofs.Members.{Contains-none, Contains-one}

-- what is seen is known
abbrev pub SeenIn : TKnown → List Seen → Type 0
SeenIn tk = Every Seen (λ s. is_some (check.component tk s.0) ≡ true)

seen_at : (tk : TKnown) (seen : List Seen) (s : Seen) → SeenIn tk seen → Contains seen s → is_some (check.component tk s.0) ≡ true
seen_at tk [] s h i = absurd (Contains-none i)
seen_at tk (t ∷ seen) s h i = ⊎_elim (λ l. subst (λ (z : Seen). is_some (check.component tk z.0) ≡ true) (sym (Contains-one l)) h.0) (λ r. seen_at tk seen s h.1 r) (Contains-append_cases (t ∷ []) seen _ i)

pub named_known : (tk : TKnown) (seen : List Seen) → SeenIn tk seen → (ns : List Name) → AllNamed (map (λ name. record { name = name; seen = seen }) ns) → Every Name (IsIn tk) ns
named_known tk seen h [] a = tt
named_known tk seen h (n ∷ ns) a = (seen_at tk seen (n.id, a.0.0) h a.0.1, named_known tk seen h ns a.1)

-- the variables of ports are no node's
abbrev pub Begins : ℕ → Marks → Type 0
Begins count ms = (x : ℕ) → x < count → slice_get ms x ≡ Some None

pub begins_more : (count : ℕ) (ms more : Marks) → Begins count ms → Begins count (ms ++ more)
begins_more count ms more h x below = get_more ms more x None (h x below)

-- What holds before a part, where so many variables stand before it.
pub record Stands (ports : ℕ) (tk : TKnown) (wk : WKnown) (n : ℕ) (ms : Marks) : Type 0 where
  pub knows : Knows (Marked ms) tk wk
  pub counted : length ms ≡ n
  pub begins : Begins ports ms

-- the widths of nodes' variables are those of their formulas
abbrev pub Solves : List Width → Marks → Type 0
Solves ws ms = (x : ℕ) (f : Formula) → slice_get ms x ≡ Some (Some f) → width_under (formula.Var x) ws ≡ width_under f ws

pub solves_front : (ws : List Width) (ms more : Marks) → Solves ws (ms ++ more) → Solves ws ms
solves_front ws ms more h x f e = h x f (get_more ms more x (Some f) e)

abbrev pub rule_of : ℕ → Formula → Rule
rule_of x f = record { target = x; formula = f }

-- the declarations have these types
abbrev pub NamedAs : Known → List Declaration → List FirType → Type 0
NamedAs K = AllZip (λ (d : Declaration) (t : FirType). K d.name ≡ Some t)

pub zip_front : {A B : Type 0} (S : A → B → Type 0) (as' bs : List A) (cs ds : List B) → length as' ≡ length cs → AllZip S (as' ++ bs) (cs ++ ds) → AllZip S as' cs
zip_front S [] bs [] ds e h = tt
zip_front S [] bs (c ∷ cs) ds e h = absurd (omega (arith, e))
zip_front S (a ∷ as') bs [] ds e h = absurd (omega (arith, e))
zip_front S (a ∷ as') bs (c ∷ cs) ds e h = (h.0, zip_front S as' bs cs ds (omega (arith, e)) h.1)

pub zip_rest : {A B : Type 0} (S : A → B → Type 0) (as' bs : List A) (cs ds : List B) → length as' ≡ length cs → AllZip S (as' ++ bs) (cs ++ ds) → AllZip S bs ds
zip_rest S [] bs [] ds e h = h
zip_rest S [] bs (c ∷ cs) ds e h = absurd (omega (arith, e))
zip_rest S (a ∷ as') bs [] ds e h = absurd (omega (arith, e))
zip_rest S (a ∷ as') bs (c ∷ cs) ds e h = zip_rest S as' bs cs ds (omega (arith, e)) h.1

pub zip_both : {A B : Type 0} (S : A → B → Type 0) (as' bs : List A) (cs ds : List B) → AllZip S as' cs → AllZip S bs ds → AllZip S (as' ++ bs) (cs ++ ds)
zip_both S [] bs [] ds h k = k
zip_both S [] bs (c ∷ cs) ds h k = absurd h
zip_both S (a ∷ as') bs [] ds h k = absurd h
zip_both S (a ∷ as') bs (c ∷ cs) ds h k = (h.0, zip_both S as' bs cs ds h.1 k)

both_true : (a b : Bool) → a ≡ true → b ≡ true → (a && b) ≡ true
both_true a b e f = ap₂ (λ x y. x && y) e f

each_rules : (ms more : Marks) (rules : List Rule) → Each (RuleMarked ms) rules → Each (RuleMarked (ms ++ more)) rules
each_rules ms more [] h = tt
each_rules ms more (r ∷ rules) h = (more_rule ms more r h.0, each_rules ms more rules h.1)

-- the modules of instances are there
abbrev pub TargetsIn : List Module → List Name → Type 0
TargetsIn modules = Every Name (λ target. is_some (instance_in modules target.id) ≡ true)

-- What a part comes to: for the type check, for the rules, for the widths, for names, for the meaning, and whether it is well typed.
pub record Walks : Type 0 where
  pub types : checking.Walk
  pub rules : ruling.Walk
  pub widths : judging.Surveys
  pub names : Part
  pub declares : List Declaration
  pub typed : Known → Bool

-- where S is what is to be shown of a declaration with its type
module _ (all : Solved) (modules : List Module) (ports : ℕ) (S : Known → Declaration → FirType → Type 0) where
  pub record Comes (w : Walks) (tk : TKnown) (wk : WKnown) (n : ℕ) (ms : Marks) (i : ℕ) : Type 0 where
    pub marks : Marks
    pub after : Stands ports (w.types tk).known (w.rules wk n).known (n + length (w.rules wk n).places) (ms ++ marks)
    pub survey_known : (w.widths wk n).known ≡ (w.rules wk n).known
    pub survey_count : (w.widths wk n).count ≡ length (w.rules wk n).places
    pub kept : (name : ℕ) → is_some (check.component tk name) ≡ true → is_some (check.component (w.types tk).known name) ≡ true
    pub kept_sized : (name : ℕ) (sized : Component) → lookup (nat_eq name) wk ≡ Some sized → lookup (nat_eq name) (w.rules wk n).known ≡ Some sized
    pub shown : SeenIn (w.types tk).known (w.names.shows i)
    pub marked : Each (RuleMarked (ms ++ marks)) (w.rules wk n).rules
    pub ruled : (x : ℕ) (f : Formula) → slice_get (ms ++ marks) x ≡ Some (Some f) → (slice_get ms x ≡ Some (Some f)) ⊎ Contains (w.rules wk n).rules (rule_of x f)
    pub counted : length w.declares ≡ length (w.widths wk n).declared
    pub fits : (K : Known) → NamedAs K w.declares (w.widths wk n).declared → Filled all.widths wk K → Filled all.widths (w.rules wk n).known K
    pub well : (K : Known) → Filled all.widths (w.rules wk n).known K → Solves all.widths (ms ++ marks) → (w.widths wk n).faults ≡ []
        → (w.typed K ≡ true) × AllZip (S K) w.declares (w.widths wk n).declared

  abbrev pub Comes_to : Walks → Type 0
  Comes_to w = (tk : TKnown) (wk : WKnown) (n : ℕ) (ms : Marks) (seen : List Seen) (i : ℕ) → Stands ports tk wk n ms → SeenIn tk seen → AllNamed (w.names.uses seen i)
      → TargetsIn modules w.names.instances → (w.types tk).faults ≡ [] → Comes w tk wk n ms i

  -- one part behind another
  abbrev pub both : Walks → Walks → Walks
  both w v = record {
    types = checking.and_then w.types v.types;
    rules = ruling.and_then w.rules v.rules;
    widths = judging.and_then w.widths v.widths;
    names = parts.joined w.names v.names;
    declares = w.declares ++ v.declares;
    typed = λ K. w.typed K && v.typed K;
  }

  filled_back : (ws : List Width) (wk more : WKnown) (K : Known) → ((name : ℕ) (sized : Component) → lookup (nat_eq name) wk ≡ Some sized → lookup (nat_eq name) more ≡ Some sized) → Filled ws more K → Filled ws wk K
  filled_back ws wk more K kept h name sized e = h name sized (kept name sized e)

  seen_more : (tk more : TKnown) (seen : List Seen) → ((name : ℕ) → is_some (check.component tk name) ≡ true → is_some (check.component more name) ≡ true) → SeenIn tk seen → SeenIn more seen
  seen_more tk more [] h s = tt
  seen_more tk more (x ∷ seen) h s = (h x.0 s.0, seen_more tk more seen h s.1)

  pub comes_both : (w v : Walks) → Comes_to w → Comes_to v → Comes_to (both w v)
  comes_both w v h k tk wk n ms seen i st si au ti e =
      let first = w.rules wk n in
      let tk' : TKnown = (w.types tk).known in
      let n' : ℕ = n + length first.places in
      let a : Comes w tk wk n ms i = h tk wk n ms seen i st si (every-left Use IsNamed (w.names.uses seen i) _ au) (every-left Name (λ target. is_some (instance_in modules target.id) ≡ true) w.names.instances _ ti) (left_empty (w.types tk).faults _ e) in
      let b : Comes v tk' first.known n' (ms ++ a.marks) (i + length w.names.declares)
      = k tk' first.known n' (ms ++ a.marks) (seen ++ w.names.shows i) (i + length w.names.declares) a.after
      (every-append Seen (λ s. is_some (check.component tk' s.0) ≡ true) seen (w.names.shows i) (seen_more tk tk' seen a.kept si) a.shown)
      (every-right Use IsNamed (w.names.uses seen i) _ au) (every-right Name (λ target. is_some (instance_in modules target.id) ≡ true) w.names.instances _ ti) (right_empty (w.types tk).faults _ e) in
      let second = v.rules first.known n' in
      let tk2 : TKnown = (v.types tk').known in
      let s : v.widths (w.widths wk n).known (n + (w.widths wk n).count) ≡ v.widths first.known n' = ap₂ (λ known c. v.widths known (n + c)) a.survey_known a.survey_count in
      let together : (ms ++ a.marks) ++ b.marks ≡ ms ++ (a.marks ++ b.marks) = append_assoc ms a.marks b.marks in
      let places : n' + length second.places ≡ n + length (first.places ++ second.places) = omega (arith, length-append first.places second.places) in
      record {
        marks = a.marks ++ b.marks;
        after = subst (λ l. Stands ports tk2 second.known l (ms ++ (a.marks ++ b.marks))) places (subst (Stands ports tk2 second.known (n' + length second.places)) together b.after);
        survey_known = ap (λ (g : judging.Findings). g.known) s ∙ b.survey_known;
        survey_count = ap₂ (λ x (g : judging.Findings). x + g.count) a.survey_count s ∙ ap (λ c. length first.places + c) b.survey_count ∙ sym (length-append first.places second.places);
        kept = λ name is. b.kept name (a.kept name is);
        kept_sized = λ name sized is. b.kept_sized name sized (a.kept_sized name sized is);
        shown = every-append Seen (λ s. is_some (check.component tk2 s.0) ≡ true) (w.names.shows i) (v.names.shows (i + length w.names.declares)) (seen_more tk' tk2 (w.names.shows i) b.kept a.shown) b.shown;
        marked = each_append (RuleMarked (ms ++ (a.marks ++ b.marks))) first.rules second.rules
            (subst (λ z. Each (RuleMarked z) first.rules) together (each_rules (ms ++ a.marks) b.marks first.rules a.marked)) (subst (λ z. Each (RuleMarked z) second.rules) together b.marked);
        ruled = λ x f is. ⊎_elim (λ l. ⊎_elim (λ p. inl p) (λ q. inr (Contains-append_left _ second.rules _ q)) (a.ruled x f l)) (λ r. inr (Contains-append_right first.rules _ _ r)) (b.ruled x f (ap (λ z. slice_get z x) together ∙ is));
        counted = length-append w.declares v.declares ∙ ap₂ (λ x y. x + y) a.counted (b.counted ∙ ap (λ (g : judging.Findings). length g.declared) (sym s))
            ∙ sym (length-append (w.widths wk n).declared (v.widths (w.widths wk n).known (n + (w.widths wk n).count)).declared);
        fits = λ K named fits.
            let named' : NamedAs K (w.declares ++ v.declares) ((w.widths wk n).declared ++ (v.widths first.known n').declared) = subst (λ (g : judging.Findings). NamedAs K (w.declares ++ v.declares) ((w.widths wk n).declared ++ g.declared)) s named in
            b.fits K (zip_rest (λ (d : Declaration) (t : FirType). K d.name ≡ Some t) w.declares v.declares (w.widths wk n).declared _ a.counted named')
            (a.fits K (zip_front (λ (d : Declaration) (t : FirType). K d.name ≡ Some t) w.declares v.declares (w.widths wk n).declared _ a.counted named') fits);
        well = λ K fits solves none.
            let none' : (w.widths wk n).faults ++ (v.widths first.known n').faults ≡ [] = ap (λ (g : judging.Findings). (w.widths wk n).faults ++ g.faults) (sym s) ∙ none in
            let solves' : Solves all.widths ((ms ++ a.marks) ++ b.marks) = subst (Solves all.widths) (sym together) solves in
            let one = a.well K (filled_back all.widths first.known second.known K b.kept_sized fits) (solves_front all.widths (ms ++ a.marks) b.marks solves') (left_empty (w.widths wk n).faults _ none') in
            let two = b.well K fits solves' (right_empty (w.widths wk n).faults _ none') in (
              both_true (w.typed K) (v.typed K) one.0 two.0,
              subst (λ (g : judging.Findings). AllZip (S K) (w.declares ++ v.declares) ((w.widths wk n).declared ++ g.declared)) (sym s) (zip_both (S K) w.declares v.declares (w.widths wk n).declared _ one.1 two.1),
            );
      }

  -- nothing
  abbrev pub nothing' : Walks
  nothing' = record { types = checking.nothing; rules = ruling.nothing; widths = judging.nothing; names = parts.nothing; declares = []; typed = λ K. true }

  pub stands_still : (tk : TKnown) (wk : WKnown) (n : ℕ) (ms : Marks) → Stands ports tk wk n ms → Stands ports tk wk (n + 0) (ms ++ [])
  stands_still tk wk n ms st = let same : n ≡ n + 0 = omega arith in subst (λ k. Stands ports tk wk k (ms ++ [])) same (subst (Stands ports tk wk n) (sym (append-nil ms)) st)

  pub comes_nothing : Comes_to nothing'
  comes_nothing tk wk n ms seen i st si au ti e = record {
    marks = [];
    after = stands_still tk wk n ms st;
    survey_known = refl;
    survey_count = refl;
    kept = λ name is. is;
    kept_sized = λ name sized is. is;
    shown = tt;
    marked = tt;
    ruled = λ x f is. inl (ap (λ z. slice_get z x) (sym (append-nil ms)) ∙ is);
    counted = refl;
    fits = λ K named fits. fits;
    well = λ K fits solves none. (refl, tt);
  }
