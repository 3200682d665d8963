-- What lists of statements do, one behind another.
use Rattle.std.proofs.Common.{◌≡◌, ℕ, Bool, true, false, List, [], ◌∷◌, ◌++◌, map, refl, sym, ap, ap₂, ◌∙◌, arith, ◌==◌, ◌&&◌, ◌||◌, if◌then◌else◌, Some, Option, append-nil, append_assoc, ◌⊎◌, inl, ⊎_elim}
use Rattle.std.specs.List.{list_all, list_any}
use Rattle.std.proofs.lemmas.Grind.{common_steps}
use Rattle.std.proofs.lemmas.List.{map-append}
use Rattle.std.proofs.lemmas.List.Folds.{list_all-append, list_any-append}
use Rattle.bit_words.specs.declared.value.Value.{Value}
use Rattle.ground_net.specs.declared.ground.Ground.{Ground}
use Rattle.ground_net.specs.declared.circuit.GroundStmt.{GroundStmt, the_lemmas}
use Rattle.ground_net.specs.declared.circuit.GroundStmt.TheVariants.{Connect}
use Rattle.ground_net.specs.Grounds.{Instant, value, mentions, joined}
use Rattle.ground_net.specs.Statements.{Effect, Driving, in_turn, all_hold, effect, driving, is_certain, live, live_from}
use Rattle.ground_net.specs.Shapes.{Table}
use Rattle.ground_net.specs.StatementShapes.{is_condition, is_source, is_shaped_stmt, is_shaped}
use Rattle.ground_statements.specs.Connects.{LeavesAlone}

-- Connects

pub effect-Connect : (instant : Instant) (x target : ℕ) (conditions : List Ground) (source : Ground) (last : Option Value)
    → effect instant x (Connect target conditions source) last ≡ if (target == x) && all_hold instant conditions then Some (value source instant) else last
effect-Connect instant x target conditions source last = grind (arith, common_steps, the_lemmas)

pub live-Connect : (x target : ℕ) (conditions : List Ground) (source : Ground)
    → (driving x (Connect target conditions source)).live ≡ if target == x then (joined (map mentions conditions) ++ mentions source) ∷ [] else []
live-Connect x target conditions source = grind (arith, common_steps, the_lemmas)

pub certain-Connect : (x target : ℕ) (source : Ground) → (driving x (Connect target [] source)).certain ≡ (target == x)
certain-Connect x target source = grind (arith, common_steps, the_lemmas)

pub uncertain-Connect : (x target : ℕ) (condition : Ground) (conditions : List Ground) (source : Ground) → (driving x (Connect target (condition ∷ conditions) source)).certain ≡ false
uncertain-Connect x target condition conditions source = grind (arith, common_steps, the_lemmas)

pub shaped-Connect : (table : Table) (target : ℕ) (conditions : List Ground) (source : Ground)
    → is_shaped_stmt table (Connect target conditions source) ≡ (list_all (is_condition table) conditions && is_source table target source)
shaped-Connect table target conditions source = grind (arith, common_steps, the_lemmas)

-- What stands behind

in_turn-append : (es fs : List Effect) (last : Option Value) → in_turn (es ++ fs) last ≡ in_turn fs (in_turn es last)
in_turn-append [] fs last = refl
in_turn-append (e ∷ es) fs last = in_turn-append es fs (e last)

pub effects-append : (instant : Instant) (x : ℕ) (m k : List GroundStmt) (last : Option Value)
    → in_turn (map (effect instant x) (m ++ k)) last ≡ in_turn (map (effect instant x) k) (in_turn (map (effect instant x) m) last)
effects-append instant x m k last = ap (λ es. in_turn es last) (map-append (effect instant x) m k) ∙ in_turn-append (map (effect instant x) m) (map (effect instant x) k) last

pub certain-append : (x : ℕ) (m k : List GroundStmt) → is_certain x (m ++ k) ≡ (is_certain x m || is_certain x k)
certain-append x m k = ap (list_any (λ (s : Driving). s.certain)) (map-append (driving x) m k) ∙ list_any-append (λ (s : Driving). s.certain) (map (driving x) m) (map (driving x) k)

pub shaped-append : (table : Table) (m k : List GroundStmt) → is_shaped table (m ++ k) ≡ (is_shaped table m && is_shaped table k)
shaped-append table m k = ap (list_all (λ b. b)) (map-append (is_shaped_stmt table) m k) ∙ list_all-append (λ b. b) (map (is_shaped_stmt table) m) (map (is_shaped_stmt table) k)

or_false : (a b : Bool) → b ≡ false → (a || b) ≡ a
or_false true b e = refl
or_false false b e = e

or_true : (a b : Bool) → b ≡ true → (a || b) ≡ true
or_true true b e = refl
or_true false b e = e

uncovered : (ds bs : List Driving) → list_any (λ (s : Driving). s.certain) bs ≡ false → live_from (ds ++ bs) ≡ live_from ds ++ live_from bs
uncovered [] bs e = refl
uncovered (a ∷ ds) bs e =
    ap₂ (λ b more. (if b then [] else a.live) ++ more) (list_any-append (λ (s : Driving). s.certain) ds bs ∙ or_false (list_any (λ (s : Driving). s.certain) ds) (list_any (λ (s : Driving). s.certain) bs) e) (uncovered ds bs e)
    ∙ sym (append_assoc (if list_any (λ (s : Driving). s.certain) ds then [] else a.live) (live_from ds) (live_from bs))

covered : (ds bs : List Driving) → list_any (λ (s : Driving). s.certain) bs ≡ true → live_from (ds ++ bs) ≡ live_from bs
covered [] bs e = refl
covered (a ∷ ds) bs e =
    ap₂ (λ b more. (if b then [] else a.live) ++ more) (list_any-append (λ (s : Driving). s.certain) ds bs ∙ or_true (list_any (λ (s : Driving). s.certain) ds) (list_any (λ (s : Driving). s.certain) bs) e) (covered ds bs e)

-- Where later statements cover none of the live connects before them, all stay live.
pub live-append : (x : ℕ) (m k : List GroundStmt) → (is_certain x k ≡ false) ⊎ (live x m ≡ []) → live x (m ++ k) ≡ live x m ++ live x k
live-append x m k h = ap live_from (map-append (driving x) m k) ∙ ⊎_elim (λ e. uncovered (map (driving x) m) (map (driving x) k) e) (λ e. by (is_certain x k) refl e) h
  where
    by : (b : Bool) → is_certain x k ≡ b → live x m ≡ [] → live_from (map (driving x) m ++ map (driving x) k) ≡ live x m ++ live x k
    by true t e = covered (map (driving x) m) (map (driving x) k) t ∙ ap (λ l. l ++ live x k) (sym e)
    by false t e = uncovered (map (driving x) m) (map (driving x) k) t

-- Statements that leave a leaf alone

pub alone_none : (x : ℕ) → LeavesAlone [] x
alone_none x = record { effects = λ instant last. refl; certain = refl; live = refl }

pub alone_append : (m k : List GroundStmt) (x : ℕ) → LeavesAlone m x → LeavesAlone k x → LeavesAlone (m ++ k) x
alone_append m k x a b = record {
  effects = λ instant last. effects-append instant x m k last ∙ (b.effects instant (in_turn (map (effect instant x) m) last) ∙ a.effects instant last);
  certain = certain-append x m k ∙ ap₂ (λ p q. p || q) a.certain b.certain;
  live = live-append x m k (inl b.certain) ∙ ap₂ (λ p q. p ++ q) a.live b.live;
}

pub other_alone : (target x : ℕ) (conditions : List Ground) (source : Ground) → (target == x) ≡ false → LeavesAlone (Connect target conditions source ∷ []) x
other_alone target x conditions source e = record {
  effects = λ instant last. effect-Connect instant x target conditions source last ∙ ap (λ b. if b && all_hold instant conditions then Some (value source instant) else last) e;
  certain = by conditions;
  live = append-nil (driving x (Connect target conditions source)).live ∙ (live-Connect x target conditions source ∙ ap (λ b. if b then (joined (map mentions conditions) ++ mentions source) ∷ [] else []) e);
}
  where
    by : (cs : List Ground) → ((driving x (Connect target cs source)).certain || false) ≡ false
    by [] = ap (λ b. b || false) (certain-Connect x target source ∙ e)
    by (c ∷ cs) = ap (λ b. b || false) (uncertain-Connect x target c cs source)
