-- Statements one after another, and a `when`.
use Rattle.std.proofs.Common.{◌≡◌, ℕ, ◌&&◌, ◌||◌, Bool, true, false, List, [], ◌∷◌, ◌++◌, map, flat_map, Option, ℤ, option_map, refl, sym, ap, ap₂, ◌∙◌, subst, if◌then◌else◌, append-nil, nat_lt}
use Rattle.std.specs.Bool.{⊤}
use Rattle.std.specs.List.{list_any, list_all}
use Rattle.std.proofs.lemmas.List.{map-append}
use Rattle.std.proofs.lemmas.List.Concat.{flat_map-cons}
use Rattle.bit_words.specs.declared.value.Value.{Value}
use Rattle.bit_words.specs.Values.{integer_of}
use Rattle.prim_ops.specs.Values.{is_one}
use Rattle.fir_meaning.specs.Components.{Leaf}
use Rattle.fir_meaning.specs.Drives as tree_drives
use Rattle.fir_meaning.specs.Loops as tree_loops
use Rattle.circuit_laws.specs.Open as open_text
use Rattle.circuit_laws.specs.OpenReads as open_reads
use Rattle.ground_net.specs.declared.circuit.GroundStmt.{GroundStmt}
use Rattle.ground_net.specs.declared.circuit.GroundStmt.TheVariants.{When}
use Rattle.ground_net.specs.declared.circuit.GroundArm.{GroundArm}
use Rattle.ground_net.specs.Grounds.{Instant, value, mentions}
use Rattle.ground_net.specs.Statements.{Effect, in_turn, first_holding, effect, driving, live_from, live, is_certain, through_arms}
use Rattle.ground_net.specs.Shapes.{HasShapes}
use Rattle.ground_exprs.specs.Numbers.{Numbering, SameLeaves}
use Rattle.ground_exprs.proofs.Onwards.{same_none, same_append}
use Rattle.ground_statements.specs.Connects.{SameLives}
use Rattle.ground_statements.specs.Bodies.{Meant, IsMeant, left_alone}
use Rattle.ground_statements.proofs.Layers.{block_effect, arm_effect, driving_arm, effect-When, arm_effect-is, certain-When, live-When, driving_arm-is}
use Rattle.ground_statements.proofs.Lives.{certain_append, live_append, lives_none, lives_append, lives_unless, lives_crossing}

-- the same in other words
pub told : (n : Numbering) (x : ℕ) (a b : Meant) (made : List GroundStmt) → ((instant : Instant) (last : Option ℤ) → a.does instant last ≡ b.does instant last) → a.certain ≡ b.certain → a.lives ≡ b.lives
    → IsMeant n x a made → IsMeant n x b made
told n x a b made d c l p = record {
  effects = λ instant last h. p.effects instant last h ∙ d instant (option_map integer_of last);
  certain = p.certain ∙ c;
  live = subst (λ ls. SameLives n ls (live x made)) l p.live;
}

-- One after another

abbrev pub seq : Meant → Meant → Meant
seq a b = record {
  does = λ instant last. b.does instant (a.does instant last);
  certain = a.certain || b.certain;
  lives = (if b.certain then [] else a.lives) ++ b.lives;
}

turn_append : (fs bs : List Effect) (last : Option Value) → in_turn (fs ++ bs) last ≡ in_turn bs (in_turn fs last)
turn_append [] bs last = refl
turn_append (a ∷ fs) bs last = turn_append fs bs (a last)

pub means_none : (n : Numbering) (x : ℕ) → IsMeant n x left_alone []
means_none n x = record { effects = λ instant last h. refl; certain = refl; live = lives_none n }

pub means_seq : (n : Numbering) (x : ℕ) (a b : Meant) (made more : List GroundStmt) → IsMeant n x a made → IsMeant n x b more → IsMeant n x (seq a b) (made ++ more)
means_seq n x a b made more p q = record {
  effects = λ instant last h.
      ap (option_map integer_of) (ap (λ es. in_turn es last) (map-append (effect instant x) made more) ∙ turn_append (map (effect instant x) made) (map (effect instant x) more) last)
      ∙ q.effects instant (block_effect instant x made last) h ∙ ap (b.does instant) (p.effects instant last h);
  certain = ap (list_any (λ t. t.certain)) (map-append (driving x) made more) ∙ certain_append (map (driving x) made) (map (driving x) more) ∙ ap₂ (λ u v. u || v) p.certain q.certain;
  live = subst (SameLives n (seq a b).lives) (sym (ap live_from (map-append (driving x) made more) ∙ live_append (map (driving x) made) (map (driving x) more)))
      (lives_append n (if b.certain then [] else a.lives) b.lives (if is_certain x more then [] else live x made) (live x more)
      (lives_unless n b.certain (is_certain x more) a.lives (live x made) q.certain p.live) q.live);
}

-- A `when`

-- an arm: whether its condition holds, what that mentions, and its body
pub record MeantArm : Type 0 where
  pub holds : Instant → Bool
  pub mentioned : List Leaf
  pub body : Meant

pub record IsMeantArm (n : Numbering) (x : ℕ) (t : MeantArm) (g : GroundArm) : Type 0 where
  pub holds : (instant : Instant) → HasShapes n.table instant → is_one (value g.condition instant) ≡ t.holds instant
  pub mentioned : SameLeaves n t.mentioned (mentions g.condition)
  pub inner : IsMeant n x t.body g.body

abbrev pub AreMeantArms : Numbering → ℕ → List MeantArm → List GroundArm → Type 0
AreMeantArms n x [] [] = ⊤
AreMeantArms n x (t ∷ ts) (g ∷ gs) = IsMeantArm n x t g × AreMeantArms n x ts gs
AreMeantArms n x _ _ = ⊥

abbrev pub effects_of : Instant → List MeantArm → List (Bool × tree_drives.Effect)
effects_of instant ts = map (λ t. (t.holds instant, t.body.does instant)) ts

abbrev pub drivings_of : List MeantArm → List tree_loops.DrivingArm
drivings_of ts = map (λ t. record { condition = t.mentioned; certain = t.body.certain; live = t.body.lives }) ts

abbrev pub when_meant : Bool → List MeantArm → Meant → Meant
when_meant asked ts other = record {
  does = λ instant last. if asked then tree_drives.first_holding (effects_of instant ts) (other.does instant) last else open_text.all_arms (effects_of instant ts) (other.does instant) last;
  certain = list_all (λ arm. arm.certain) (drivings_of ts) && other.certain;
  lives = if asked then tree_loops.through_arms [] (drivings_of ts) other.lives else open_reads.arms_live (drivings_of ts) ++ other.lives;
}

choose : (b c : Bool) (f g : Effect) (u v : tree_drives.Effect) (last : Option Value) → b ≡ c → option_map integer_of (f last) ≡ u (option_map integer_of last) → option_map integer_of (g last) ≡ v (option_map integer_of last)
    → option_map integer_of ((if b then f else g) last) ≡ (if c then u else v) (option_map integer_of last)
choose true true f g u v last e h k = h
choose true false f g u v last e h k = cc
choose false true f g u v last e h k = cc
choose false false f g u v last e h k = k

module _ (n : Numbering) (x : ℕ) where
  first_alike : (instant : Instant) → HasShapes n.table instant → (ts : List MeantArm) (gs : List GroundArm) → AreMeantArms n x ts gs → (to : tree_drives.Effect) (go : Effect)
      → ((last : Option Value) → option_map integer_of (go last) ≡ to (option_map integer_of last)) → (last : Option Value)
      → option_map integer_of (first_holding (map (arm_effect instant x) gs) go last) ≡ tree_drives.first_holding (effects_of instant ts) to (option_map integer_of last)
  first_alike instant h [] [] a to go o last = o last
  first_alike instant h [] (g ∷ gs) a to go o last = absurd a
  first_alike instant h (t ∷ ts) [] a to go o last = absurd a
  first_alike instant h (t ∷ ts) (g ∷ gs) a to go o last =
      ap (λ (p : Bool × Effect). option_map integer_of ((if p.0 then p.1 else first_holding (map (arm_effect instant x) gs) go) last)) (arm_effect-is instant x g)
      ∙ choose (is_one (value g.condition instant)) (t.holds instant) (block_effect instant x g.body) (first_holding (map (arm_effect instant x) gs) go) (t.body.does instant) (tree_drives.first_holding (effects_of instant ts) to) last
      (a.0.holds instant h) (a.0.inner.effects instant last h) (first_alike instant h ts gs a.1 to go o last)

  turn_alike : (instant : Instant) → HasShapes n.table instant → (ts : List MeantArm) (gs : List GroundArm) → AreMeantArms n x ts gs → (last : Option Value)
      → option_map integer_of (in_turn (map (λ arm. arm.1) (map (arm_effect instant x) gs)) last) ≡ tree_drives.in_turn (map (λ arm. arm.1) (effects_of instant ts)) (option_map integer_of last)
  turn_alike instant h [] [] a last = refl
  turn_alike instant h [] (g ∷ gs) a last = absurd a
  turn_alike instant h (t ∷ ts) [] a last = absurd a
  turn_alike instant h (t ∷ ts) (g ∷ gs) a last =
      turn_alike instant h ts gs a.1 ((arm_effect instant x g).1 last)
      ∙ ap (tree_drives.in_turn (map (λ arm. arm.1) (effects_of instant ts))) (ap (λ (p : Bool × Effect). option_map integer_of (p.1 last)) (arm_effect-is instant x g) ∙ a.0.inner.effects instant last h)

  certain_alike : (ts : List MeantArm) (gs : List GroundArm) → AreMeantArms n x ts gs → list_all (λ arm. arm.certain) (map (driving_arm x) gs) ≡ list_all (λ arm. arm.certain) (drivings_of ts)
  certain_alike [] [] a = refl
  certain_alike [] (g ∷ gs) a = absurd a
  certain_alike (t ∷ ts) [] a = absurd a
  certain_alike (t ∷ ts) (g ∷ gs) a = ap₂ (λ u v. u && v) (ap (λ d. d.certain) (driving_arm-is x g) ∙ a.0.inner.certain) (certain_alike ts gs a.1)

  through_alike : (ts : List MeantArm) (gs : List GroundArm) → AreMeantArms n x ts gs → (cs : List Leaf) (ds : List ℕ) → SameLeaves n cs ds → (lo : List (List Leaf)) (go : List (List ℕ)) → SameLives n lo go
      → SameLives n (tree_loops.through_arms cs (drivings_of ts) lo) (through_arms ds (map (driving_arm x) gs) go)
  through_alike [] [] a cs ds c lo go o = lives_crossing n cs ds lo go c o
  through_alike [] (g ∷ gs) a cs ds c lo go o = absurd a
  through_alike (t ∷ ts) [] a cs ds c lo go o = absurd a
  through_alike (t ∷ ts) (g ∷ gs) a cs ds c lo go o =
      let more : SameLeaves n (cs ++ t.mentioned) (ds ++ mentions g.condition) = same_append n cs t.mentioned ds (mentions g.condition) c a.0.mentioned in
      subst (λ d. SameLives n (tree_loops.through_arms cs (drivings_of (t ∷ ts)) lo) (through_arms ds (d ∷ map (driving_arm x) gs) go)) (sym (driving_arm-is x g))
      (lives_append n _ _ _ _ (lives_crossing n (cs ++ t.mentioned) (ds ++ mentions g.condition) t.body.lives (live x g.body) more a.0.inner.live)
      (through_alike ts gs a.1 (cs ++ t.mentioned) (ds ++ mentions g.condition) more lo go o))

  all_alike : (ts : List MeantArm) (gs : List GroundArm) → AreMeantArms n x ts gs → SameLives n (open_reads.arms_live (drivings_of ts)) (flat_map (λ arm. arm.live) (map (driving_arm x) gs))
  all_alike [] [] a = lives_none n
  all_alike [] (g ∷ gs) a = absurd a
  all_alike (t ∷ ts) [] a = absurd a
  all_alike (t ∷ ts) (g ∷ gs) a =
      subst (SameLives n (open_reads.arms_live (drivings_of (t ∷ ts)))) (sym (flat_map-cons (λ arm. arm.live) (driving_arm x g) (map (driving_arm x) gs) ∙ ap (λ d. d.live ++ flat_map (λ arm. arm.live) (map (driving_arm x) gs)) (driving_arm-is x g)))
      (lives_append n t.body.lives (open_reads.arms_live (drivings_of ts)) (live x g.body) (flat_map (λ arm. arm.live) (map (driving_arm x) gs)) a.0.inner.live (all_alike ts gs a.1))

  either_effect : (b : Bool) (f g : Option Value) (u v : Option ℤ) → option_map integer_of f ≡ u → option_map integer_of g ≡ v → option_map integer_of (if b then f else g) ≡ (if b then u else v)
  either_effect true f g u v h k = h
  either_effect false f g u v h k = k

  either_lives : (b : Bool) (f g : List (List Leaf)) (u v : List (List ℕ)) → SameLives n f u → SameLives n g v → SameLives n (if b then f else g) (if b then u else v)
  either_lives true f g u v h k = h
  either_lives false f g u v h k = k

  or_false : (b : Bool) → (b || false) ≡ b
  or_false true = refl
  or_false false = refl

  pub means_when : (first : ℕ) (ts : List MeantArm) (gs : List GroundArm) (other : Meant) (made : List GroundStmt) → AreMeantArms n x ts gs → IsMeant n x other made
      → IsMeant n x (when_meant (nat_lt x first) ts other) (When first gs made ∷ [])
  means_when first ts gs other made a o = record {
    effects = λ instant last h.
        ap (option_map integer_of) (effect-When instant x first gs made last)
        ∙ either_effect (nat_lt x first) _ _ _ _ (first_alike instant h ts gs a (other.does instant) (block_effect instant x made) (λ l. o.effects instant l h) last)
        (o.effects instant (in_turn (map (λ arm. arm.1) (map (arm_effect instant x) gs)) last) h ∙ ap (other.does instant) (turn_alike instant h ts gs a last));
    certain = or_false (driving x (When first gs made)).certain ∙ certain-When x first gs made ∙ ap₂ (λ u v. u && v) (certain_alike ts gs a) o.certain;
    live = subst (SameLives n (when_meant (nat_lt x first) ts other).lives) (sym (append-nil (driving x (When first gs made)).live ∙ live-When x first gs made))
        (either_lives (nat_lt x first) _ _ _ _ (through_alike ts gs a [] [] (same_none n) other.lives (live x made) o.live)
        (lives_append n _ _ _ _ (all_alike ts gs a) o.live));
  }
