-- Reading a format from its first byte on gives its pieces, and nothing exactly where the bytes are no format.
use Rattle.std.proofs.Common.{◌≡◌, ◌≢◌, ℕ, ◌+◌, ◌<◌, ◌≤◌, length, drop, get_or, add-one, drop-cons, Bool, true, false, List, [], ◌∷◌, ◌++◌, Option, Some, None, if◌then◌else◌, ◌||◌, refl, sym, ap, ◌∙◌, eqb, eqb→eq, eq-eqb, arith, append_assoc}
use Rattle.std.proofs.lemmas.Grind.{common_steps}
use Rattle.fir_tree.specs.declared.print.Piece.{Piece}
use Rattle.fir_tree.specs.declared.print.Piece.TheVariants.{Bytes, Show}
use Rattle.fir_tree.specs.declared.print.Radix.{Radix}
use Rattle.fir_tree.specs.declared.print.Radix.TheVariants.{Bin, Dec, Hex, Char}
use Rattle.item_lines.specs.declared.format.After.{After}
use Rattle.item_lines.specs.declared.format.After.TheVariants as after
use Rattle.item_lines.specs.Formats.{before, letter_of, IsEscape, line_feed, tab, backslash, quote, apostrophe, IsFormat, nothing, a_byte, an_escape, a_percent, a_show}
use Rattle.item_lines.specs.FormatReading.{radix_of, escaped, fill, meant, shown, pieces_from, behind}

fill_push : (text : List ℕ) (byte : ℕ) (pieces : List Piece) → fill (text ++ byte ∷ []) pieces ≡ fill text (before byte pieces)
fill_push [] byte pieces = refl
fill_push (t ∷ text) byte pieces = ap (before t) (fill_push text byte pieces)

pub behind_put : (pieces : List Piece) (text : List ℕ) (byte : ℕ) (later : Option (List Piece)) → behind pieces (text ++ byte ∷ []) later ≡ behind pieces text (meant (Some byte) later)
behind_put pieces text byte None = refl
behind_put pieces text byte (Some others) = ap (λ (o : List Piece). Some (pieces ++ o)) (fill_push text byte others)

before_show : (byte : ℕ) (pieces : List Piece) (radix : Radix) (others : List Piece) → before byte (pieces ++ Show radix ∷ others) ≡ before byte pieces ++ Show radix ∷ others
before_show byte [] radix others = refl
before_show byte (Bytes text ∷ pieces) radix others = refl
before_show byte (Show other ∷ pieces) radix others = refl

fill_show : (text : List ℕ) (radix : Radix) (others : List Piece) → fill text (Show radix ∷ others) ≡ fill text [] ++ Show radix ∷ others
fill_show [] radix others = refl
fill_show (t ∷ text) radix others = ap (before t) (fill_show text radix others) ∙ before_show t (fill text []) radix others

pub behind_show : (pieces : List Piece) (text : List ℕ) (radix : Radix) (later : Option (List Piece))
    → behind ((pieces ++ fill text []) ++ Show radix ∷ []) [] later ≡ behind pieces text (shown (Some radix) later)
behind_show pieces text radix None = refl
behind_show pieces text radix (Some others) =
    ap Some (append_assoc (pieces ++ fill text []) (Show radix ∷ []) others ∙ append_assoc pieces (fill text []) (Show radix ∷ others) ∙ ap (λ (o : List Piece). pieces ++ o) (sym (fill_show text radix others)))

fill_bytes : (t : ℕ) (text : List ℕ) → fill (t ∷ text) [] ≡ Bytes (t ∷ text) ∷ []
fill_bytes t [] = refl
fill_bytes t (u ∷ text) = ap (before t) (fill_bytes u text)

-- bytes that aren't empty are one piece
pub closed_text : (text : List ℕ) → text ≢ [] → fill text [] ≡ Bytes text ∷ []
closed_text [] some = absurd (some refl)
closed_text (t ∷ text) some = fill_bytes t text

pub behind_nothing : (later : Option (List Piece)) → behind [] [] later ≡ later
behind_nothing None = refl
behind_nothing (Some pieces) = refl

pub no_pieces_behind : (pieces : List Piece) (text : List ℕ) (later : Option (List Piece)) → later ≡ None → behind pieces text later ≡ None
no_pieces_behind pieces text later none = rw none refl

differ : (m n : ℕ) → m ≢ n → (b : Bool) → eqb m n ≡ b → eqb m n ≡ false
differ m n other true e = absurd (other (eqb→eq m n (rw e tt)))
differ m n other false e = e

-- a format is read to its pieces
pub format_is_read : {bytes : List ℕ} {pieces : List Piece} → IsFormat bytes pieces → pieces_from after.Byte bytes ≡ Some pieces
format_is_read nothing = refl
format_is_read (a_byte {byte} p q f) = rw (differ byte 37 p (eqb byte 37) refl, differ byte 92 q (eqb byte 92) refl) (ap (meant (Some byte)) (format_is_read f))
format_is_read (an_escape line_feed f) = ap (meant (Some 10)) (format_is_read f)
format_is_read (an_escape tab f) = ap (meant (Some 9)) (format_is_read f)
format_is_read (an_escape backslash f) = ap (meant (Some 92)) (format_is_read f)
format_is_read (an_escape quote f) = ap (meant (Some 34)) (format_is_read f)
format_is_read (an_escape apostrophe f) = ap (meant (Some 39)) (format_is_read f)
format_is_read (a_percent f) = ap (meant (Some 37)) (format_is_read f)
format_is_read (a_show {radix = Bin} f) = ap (shown (Some Bin)) (format_is_read f)
format_is_read (a_show {radix = Dec} f) = ap (shown (Some Dec)) (format_is_read f)
format_is_read (a_show {radix = Hex} f) = ap (shown (Some Hex)) (format_is_read f)
format_is_read (a_show {radix = Char} f) = ap (shown (Some Char)) (format_is_read f)

-- and what is read is a format
abbrev pending : After → List ℕ → List ℕ
pending after.Byte rest = rest
pending after.Percent rest = 37 ∷ rest
pending after.Backslash rest = 92 ∷ rest

abbrev Sound : After → List ℕ → Type 0
Sound asked rest = (pieces : List Piece) → pieces_from asked rest ≡ Some pieces → IsFormat (pending asked rest) pieces

decided : (m n : ℕ) → eqb m n ≡ true → m ≡ n
decided m n e = eqb→eq m n (rw e tt)

apart : (m n : ℕ) → eqb m n ≡ false → m ≢ n
apart m n e same = let here : eqb m n ≡ true = eq-eqb m n same in cc

after_byte : (c : ℕ) (rest : List ℕ) (later : Option (List Piece)) → (c ≢ 37) → (c ≢ 92) → ((ps : List Piece) → later ≡ Some ps → IsFormat rest ps)
    → (pieces : List Piece) → meant (Some c) later ≡ Some pieces → IsFormat (c ∷ rest) pieces
after_byte c rest None p q sound pieces e = cc
after_byte c rest (Some others) p q sound pieces e = let is : before c others ≡ pieces = cc in rw (← is) (a_byte p q (sound others refl))

after_percent : (rest : List ℕ) (later : Option (List Piece)) → ((ps : List Piece) → later ≡ Some ps → IsFormat rest ps)
    → (pieces : List Piece) → meant (Some 37) later ≡ Some pieces → IsFormat (37 ∷ 37 ∷ rest) pieces
after_percent rest None sound pieces e = cc
after_percent rest (Some others) sound pieces e = let is : before 37 others ≡ pieces = cc in rw (← is) (a_percent (sound others refl))

after_escape : (c byte : ℕ) (rest : List ℕ) (later : Option (List Piece)) → IsEscape c byte → ((ps : List Piece) → later ≡ Some ps → IsFormat rest ps)
    → (pieces : List Piece) → meant (Some byte) later ≡ Some pieces → IsFormat (92 ∷ c ∷ rest) pieces
after_escape c byte rest None is sound pieces e = cc
after_escape c byte rest (Some others) is sound pieces e = let same : before byte others ≡ pieces = cc in rw (← same) (an_escape is (sound others refl))

after_letter : (radix : Radix) (c : ℕ) (rest : List ℕ) (later : Option (List Piece)) → letter_of radix ≡ c → ((ps : List Piece) → later ≡ Some ps → IsFormat rest ps)
    → (pieces : List Piece) → shown (Some radix) later ≡ Some pieces → IsFormat (37 ∷ c ∷ rest) pieces
after_letter radix c rest None is sound pieces e = cc
after_letter radix c rest (Some others) is sound pieces e = let same : Show radix ∷ others ≡ pieces = cc in rw (← same, ← is) (a_show {radix = radix} (sound others refl))

radix_is : (c : ℕ) (radix : Radix) → radix_of c ≡ Some radix → letter_of radix ≡ c
radix_is c radix e = by (eqb c 98) (eqb c 100) (eqb c 120) (eqb c 99) refl refl refl refl e
  where
    by : (p q r s : Bool) → eqb c 98 ≡ p → eqb c 100 ≡ q → eqb c 120 ≡ r → eqb c 99 ≡ s
        → (if p then Some Bin else if q then Some Dec else if r then Some Hex else if s then Some Char else None) ≡ Some radix → letter_of radix ≡ c
    by true q r s is _ _ _ h = let same : Bin ≡ radix = cc in rw (← same) (sym (decided c 98 is))
    by false true r s _ is _ _ h = let same : Dec ≡ radix = cc in rw (← same) (sym (decided c 100 is))
    by false false true s _ _ is _ h = let same : Hex ≡ radix = cc in rw (← same) (sym (decided c 120 is))
    by false false false true _ _ _ is h = let same : Char ≡ radix = cc in rw (← same) (sym (decided c 99 is))
    by false false false false _ _ _ _ h = cc

escape_is : (c byte : ℕ) → escaped c ≡ Some byte → IsEscape c byte
escape_is c byte e = by (eqb c 110) (eqb c 116) (eqb c 92) (eqb c 34) (eqb c 39) refl refl refl refl refl e
  where
    by : (p q r s t : Bool) → eqb c 110 ≡ p → eqb c 116 ≡ q → eqb c 92 ≡ r → eqb c 34 ≡ s → eqb c 39 ≡ t
        → (if p then Some 10 else if q then Some 9 else if r || s || t then Some c else None) ≡ Some byte → IsEscape c byte
    by true q r s t is _ _ _ _ h = let same : 10 ≡ byte = cc in rw (decided c 110 is, ← same) line_feed
    by false true r s t _ is _ _ _ h = let same : 9 ≡ byte = cc in rw (decided c 116 is, ← same) tab
    by false false true s t _ _ is _ _ h = let same : 92 ≡ byte = sym (decided c 92 is) ∙ cc in rw (decided c 92 is, ← same) backslash
    by false false false true t _ _ _ is _ h = let same : 34 ≡ byte = sym (decided c 34 is) ∙ cc in rw (decided c 34 is, ← same) quote
    by false false false false true _ _ _ _ is h = let same : 39 ≡ byte = sym (decided c 39 is) ∙ cc in rw (decided c 39 is, ← same) apostrophe
    by false false false false false _ _ _ _ _ h = cc

-- what is read from bytes is a format, whatever the byte before them asks
record IsSound (rest : List ℕ) : Type 0 where
  plain : Sound after.Byte rest
  percent : Sound after.Percent rest
  escape : Sound after.Backslash rest

sound_plain : (c : ℕ) (rest : List ℕ) → IsSound rest → Sound after.Byte (c ∷ rest)
sound_plain c rest sound pieces e = by (eqb c 37) (eqb c 92) refl refl e
  where
    by : (p q : Bool) → eqb c 37 ≡ p → eqb c 92 ≡ q
        → (if p then pieces_from after.Percent rest else if q then pieces_from after.Backslash rest else meant (Some c) (pieces_from after.Byte rest)) ≡ Some pieces → IsFormat (c ∷ rest) pieces
    by true q is other h = rw (decided c 37 is) (sound.percent pieces h)
    by false true is other h = rw (decided c 92 other) (sound.escape pieces h)
    by false false is other h = after_byte c rest (pieces_from after.Byte rest) (apart c 37 is) (apart c 92 other) sound.plain pieces h

sound_percent : (c : ℕ) (rest : List ℕ) → IsSound rest → Sound after.Percent (c ∷ rest)
sound_percent c rest sound pieces e = by (eqb c 37) (radix_of c) refl refl e
  where
    by : (p : Bool) (radix : Option Radix) → eqb c 37 ≡ p → radix_of c ≡ radix
        → (if p then meant (Some 37) (pieces_from after.Byte rest) else shown radix (pieces_from after.Byte rest)) ≡ Some pieces → IsFormat (37 ∷ c ∷ rest) pieces
    by true radix is other h = rw (decided c 37 is) (after_percent rest (pieces_from after.Byte rest) sound.plain pieces h)
    by false None is other h = cc
    by false (Some radix) is other h = after_letter radix c rest (pieces_from after.Byte rest) (radix_is c radix other) sound.plain pieces h

sound_escape : (c : ℕ) (rest : List ℕ) → IsSound rest → Sound after.Backslash (c ∷ rest)
sound_escape c rest sound pieces e = by (escaped c) refl e
  where
    by : (byte : Option ℕ) → escaped c ≡ byte → meant byte (pieces_from after.Byte rest) ≡ Some pieces → IsFormat (92 ∷ c ∷ rest) pieces
    by None is h = cc
    by (Some byte) is h = after_escape c byte rest (pieces_from after.Byte rest) (escape_is c byte is) sound.plain pieces h

is_sound : (rest : List ℕ) → IsSound rest
is_sound [] = record { plain = λ pieces e. let is : [] ≡ pieces = cc in rw (← is) nothing; percent = λ pieces e. cc; escape = λ pieces e. cc }
is_sound (c ∷ rest) = let h = is_sound rest in record { plain = sound_plain c rest h; percent = sound_percent c rest h; escape = sound_escape c rest h }

pub read_is_format : (bytes : List ℕ) (pieces : List Piece) → pieces_from after.Byte bytes ≡ Some pieces → IsFormat bytes pieces
read_is_format bytes pieces e = (is_sound bytes).plain pieces e

-- a turn of the loop over the bytes
pub next_byte : (bytes : List ℕ) (i : ℕ) → i < length bytes → drop i bytes ≡ get_or bytes i 0 ∷ drop (i + 1) bytes
next_byte bytes i within = rw (add-one, drop-cons bytes i 0) refl

pub no_byte : (bytes : List ℕ) (i : ℕ) → length bytes ≤ i → drop i bytes ≡ []
no_byte bytes i past = grind (arith, common_steps)

module _ (bytes : List ℕ) (i : ℕ) (asked : After) (pieces : List Piece) (text : List ℕ) (read : pieces_from after.Byte bytes ≡ behind pieces text (pieces_from asked (drop i bytes))) where
  pub goes_on : (next : After) (others : List Piece) (more : List ℕ) → i < length bytes
      → ((rest : List ℕ) → behind pieces text (pieces_from asked (get_or bytes i 0 ∷ rest)) ≡ behind others more (pieces_from next rest))
      → pieces_from after.Byte bytes ≡ behind others more (pieces_from next (drop (i + 1) bytes))
  goes_on next others more within step = read ∙ ap (λ (rest : List ℕ). behind pieces text (pieces_from asked rest)) (next_byte bytes i within) ∙ step (drop (i + 1) bytes)

  pub stops : i < length bytes → ((rest : List ℕ) → pieces_from asked (get_or bytes i 0 ∷ rest) ≡ None) → (all : List Piece) → ¬ (IsFormat bytes all)
  stops within none all f =
      let nothing_is : pieces_from after.Byte bytes ≡ None =
      read ∙ ap (λ (rest : List ℕ). behind pieces text (pieces_from asked rest)) (next_byte bytes i within) ∙ no_pieces_behind pieces text (pieces_from asked (get_or bytes i 0 ∷ drop (i + 1) bytes)) (none (drop (i + 1) bytes)) in
      let some : pieces_from after.Byte bytes ≡ Some all = format_is_read f in cc

  pub ends_badly : length bytes ≤ i → pieces_from asked [] ≡ None → (all : List Piece) → ¬ (IsFormat bytes all)
  ends_badly past none all f =
      let nothing_is : pieces_from after.Byte bytes ≡ None =
      read ∙ ap (λ (rest : List ℕ). behind pieces text (pieces_from asked rest)) (no_byte bytes i past) ∙ no_pieces_behind pieces text (pieces_from asked []) none in
      let some : pieces_from after.Byte bytes ≡ Some all = format_is_read f in cc

  pub ends_well : length bytes ≤ i → asked ≡ after.Byte → (all : List Piece) → all ≡ pieces ++ fill text [] → IsFormat bytes all
  ends_well past is all whole = rw whole (read_is_format bytes (pieces ++ fill text []) (read ∙ ap (λ (rest : List ℕ). behind pieces text (pieces_from asked rest)) (no_byte bytes i past) ∙ ap (λ (a : After). behind pieces text (pieces_from a [])) is))
