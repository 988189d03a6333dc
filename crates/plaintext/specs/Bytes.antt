-- Lines and words of a text, which is a list of bytes. Assumes nothing.
--     blank, in_word      a byte between words: blank, tab or carriage return; a byte of a word
--     in_line             a byte of a line, which a line feed ends
--     next_line text      the first line and the text after its line feed; none at the end of the text
--     lines text          all lines: a line feed ends one, and any other byte belongs to the line that it stands in
--     LinesAre            the lines of a text are what next_line gives again and again
--     from_word line      the line from its first word on
--     first_word line     the first word, empty where there is none
--     after_word line     what follows it
--     next_word line      both, and none where there is no word
--     words line          all words: what stands between two blank bytes, where that is not empty
--     all_blank line      there is no word
--     Cuts r o            the lent parts r of a text are the lists o
--     GivesWord l r m     r is the first word of the line l, and m follows it; where there is none, m is l
use Rattle.std.specs.Prelude.{◌≡◌, ℕ, ◌+◌, Bool, cond, not, ◌||◌, List, [], ◌∷◌, length, take, drop, filter, Some, None, Option, MatchOption, ◌==◌}
use Rattle.std.specs.Borrow.{Bor}
use Rattle.std.specs.Option.{option_map}
use Rattle.std.specs.List.{prefix_len, onto_first, slice_split}

abbrev pub blank : ℕ → Bool
blank b = b == 32 || (b == 9 || b == 13)

abbrev pub in_word : ℕ → Bool
in_word b = not (blank b)

abbrev pub in_line : ℕ → Bool
in_line b = not (b == 10)

abbrev pub next_line : List ℕ → Option (List ℕ × List ℕ)
next_line text = cond (length text == 0) None (Some (take (prefix_len in_line text) text, drop (prefix_len in_line text + 1) text))

abbrev pub lines : List ℕ → List (List ℕ)
lines [] = []
lines (b ∷ bs) = cond (in_line b) (onto_first b (lines bs)) ([] ∷ lines bs)

abbrev pub LinesAre : Type 0
LinesAre = (text : List ℕ) → MatchOption (next_line text) (lines text ≡ []) (λ p. lines text ≡ p.0 ∷ lines p.1)

abbrev pub from_word : List ℕ → List ℕ
from_word line = drop (prefix_len blank line) line

abbrev pub first_word : List ℕ → List ℕ
first_word line = take (prefix_len in_word (from_word line)) (from_word line)

abbrev pub after_word : List ℕ → List ℕ
after_word line = drop (prefix_len in_word (from_word line)) (from_word line)

abbrev pub next_word : List ℕ → Option (List ℕ × List ℕ)
next_word line = cond (length (first_word line) == 0) None (Some (first_word line, after_word line))

abbrev pub words : List ℕ → List (List ℕ)
words line = filter (λ w. not (length w == 0)) (slice_split blank line)

abbrev pub all_blank : List ℕ → Bool
all_blank line = prefix_len blank line == length line

abbrev pub Cuts : Option (Bor (List ℕ) × Bor (List ℕ)) → Option (List ℕ × List ℕ) → Type 0
Cuts r o = option_map (λ x. (x.0.now, x.1.now)) r ≡ o

abbrev pub GivesWord : List ℕ → Option (Bor (List ℕ)) → List ℕ → Type 0
GivesWord line r after = MatchOption r ((next_word line ≡ None) × (after ≡ line)) (λ w. next_word line ≡ Some (w.now, after))
