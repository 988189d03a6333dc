-- The list of all lines, or of all words, is the first and then those of what follows it. Assumes nothing.
use Rattle.std.proofs.Common.{rules, ◌≤◌, one-add, add-one, ◌≡◌, ℕ, ◌+◌, Bool, true, false, cond, not, List, [], ◌∷◌, length, take, drop, filter, Some, None, Option, refl, sym, ap, ◌∙◌}
use Rattle.std.specs.Prelude.{MatchOption, ◌==◌}
use Rattle.std.specs.List.{prefix_len, onto_first, slice_split}
use Rattle.plaintext.specs.Bytes.{LinesAre, in_line, next_line, lines, blank, in_word, from_word, first_word, next_word, words}

abbrev first_of : Option (List ℕ × List ℕ) → List ℕ
first_of None = []
first_of (Some p) = p.0

abbrev rest_of : Option (List ℕ × List ℕ) → List ℕ
rest_of None = []
rest_of (Some p) = p.1

-- what a first part and the rest are, where there is a first part
parted : (v : Bool) (t d u e : List ℕ) → cond {A = Option (List ℕ × List ℕ)} v None (Some (t, d)) ≡ Some (u, e) → (v ≡ false) × (t ≡ u) × (d ≡ e)
parted true t d u e is = absurd (cc)
parted false t d u e is = (refl, ap first_of is, ap rest_of is)

abbrev cut : List ℕ → ℕ
cut text = prefix_len in_line text

-- v says whether the first byte is of a line
line_from : (v : Bool) (b : ℕ) (bs : List ℕ) → onto_first b (lines bs) ≡ (b ∷ take (cut bs) bs) ∷ lines (drop (cut bs + 1) bs) → cond v (onto_first b (lines bs)) ([] ∷ lines bs) ≡ take (cond v (1 + cut bs) 0) (b ∷ bs) ∷ lines (drop (cond v (1 + cut bs) 0 + 1) (b ∷ bs))
line_from true b bs is = rw (one-add, add-one) (rw add-one at is)
line_from false b bs is = refl

first_line : (b : ℕ) (bs : List ℕ) → lines (b ∷ bs) ≡ take (cut (b ∷ bs)) (b ∷ bs) ∷ lines (drop (cut (b ∷ bs) + 1) (b ∷ bs))
first_line b [] = line_from (in_line b) b [] refl
first_line b (c ∷ cs) = line_from (in_line b) b (c ∷ cs) (ap (onto_first b) (first_line c cs))

pub no_line : (text : List ℕ) → next_line text ≡ None → lines text ≡ []
no_line [] over = refl
no_line (b ∷ bs) over = absurd (search rules)

pub line_then : (text line after : List ℕ) → next_line text ≡ Some (line, after) → lines text ≡ line ∷ lines after
line_then [] line after is = cc
line_then (b ∷ bs) line after is = let p = parted (length (b ∷ bs) == 0) _ _ line after is in first_line b bs ∙ cc

abbrev whole : List (List ℕ) → List (List ℕ)
whole parts = filter (λ w. not (length w == 0)) parts

abbrev reach : List ℕ → ℕ
reach line = prefix_len in_word line

-- the first part of a line, and the words of the others
record Parted (line : List ℕ) : Type 0 where
  others : List (List ℕ)
  parts : slice_split blank line ≡ take (reach line) line ∷ others
  rest : whole others ≡ words (drop (reach line) line)

by_first : (v : Bool) (b : ℕ) (bs : List ℕ) → blank b ≡ v → Parted bs → Parted (b ∷ bs)
by_first true b bs is p = record { others = slice_split blank bs; parts = rw is refl; rest = rw (is, is) refl }
by_first false b bs is p = record { others = p.others; parts = rw (is, one-add) (rw p.parts refl); rest = rw (is, one-add) p.rest }

first_part : (line : List ℕ) → Parted line
first_part [] = record { others = []; parts = refl; rest = refl }
first_part (b ∷ bs) = by_first (blank b) b bs refl (first_part bs)

unblanked_from : (v : Bool) (b : ℕ) (bs : List ℕ) → blank b ≡ v → words (from_word bs) ≡ words bs → words (from_word (b ∷ bs)) ≡ words (b ∷ bs)
unblanked_from true b bs is more = rw (is, one-add) more
unblanked_from false b bs is more = rw (is, is) refl

-- without the blanks before its first word a line has the same words
unblanked : (line : List ℕ) → words (from_word line) ≡ words line
unblanked [] = refl
unblanked (b ∷ bs) = unblanked_from (blank b) b bs refl (unblanked bs)

no_word_from : (v : Bool) (b : ℕ) (bs : List ℕ) → blank b ≡ v → (next_word bs ≡ None → words bs ≡ []) → next_word (b ∷ bs) ≡ None → words (b ∷ bs) ≡ []
no_word_from true b bs is more over = rw is (more (rw (is, one-add) at over))
no_word_from false b bs is more over = let h = rw (is, one-add) at over in absurd (search rules)

pub no_word : (line : List ℕ) → next_word line ≡ None → words line ≡ []
no_word [] over = refl
no_word (b ∷ bs) over = no_word_from (blank b) b bs refl (no_word bs) over

pub word_then : (line word after : List ℕ) → next_word line ≡ Some (word, after) → words line ≡ word ∷ words after
word_then line word after is =
    let s = from_word line in let p = first_part s in
    let q = parted (length (first_word line) == 0) _ _ word after is in
    sym (unblanked line) ∙ ap whole p.parts ∙ rw q.0 (rw (q.1, ← q.2) (ap (λ ws. word ∷ ws) p.rest))

more_line : (b : ℕ) (ls : List (List ℕ)) (n : ℕ) → length ls ≤ n → length (onto_first b ls) ≤ n + 1
more_line b [] n h = search rules
more_line b (l ∷ ls) n h = search rules

fits_from : (v : Bool) (b : ℕ) (bs : List ℕ) → length (lines bs) ≤ length bs → length (cond v (onto_first b (lines bs)) ([] ∷ lines bs)) ≤ length bs + 1
fits_from true b bs h = more_line b (lines bs) (length bs) h
fits_from false b bs h = search rules

-- a text has no more lines than bytes
pub lines_fit : (text : List ℕ) → length (lines text) ≤ length text
lines_fit [] = search rules
lines_fit (b ∷ bs) = let h = fits_from (in_line b) b bs (lines_fit bs) in search rules

line_by_line : (text : List ℕ) (o : Option (List ℕ × List ℕ)) → next_line text ≡ o → MatchOption o (lines text ≡ []) (λ p. lines text ≡ p.0 ∷ lines p.1)
line_by_line text None is = no_line text is
line_by_line text (Some p) is = line_then text p.0 p.1 is

pub one_by_one : LinesAre
one_by_one text = line_by_line text (next_line text) refl
