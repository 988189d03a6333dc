use Rattle.std.proofs.Common.{◌≡◌, ℕ, ◌<◌, ◌≤◌, MatchOption, List, Option, get_or, subst, arith, rules}
use borrow.Author.Tests.{tests}
use Rattle.std.proofs.lemmas.Iterator.{first_from_Range}
use Rattle.index.proofs.Digits.{lowest_is, none_from}
use Rattle.index.proofs.sets.NumberSet.lowest_from.Goals as goal

-- the first word from q on that is not 0
abbrev Found : List ℕ → ℕ → Option ℕ → Type 0
Found ws q o =
    MatchOption o ((k : ℕ) → q ≤ k → k < 16 → get_or ws k 0 ≡ 0) (λ i. (q ≤ i) × (i < 16) × (0 < get_or ws i 0) × ((k : ℕ) → q ≤ k → k < i → get_or ws k 0 ≡ 0))

pub returns-in_err-k : goal.returns-in_err-k
returns-in_err-k c =
    let ws = c.self.inside.words in
    let q = c.args.q in
    let found : Found ws q c.find.result = first_from_Range _ _ _ _ (λ x. 0 < get_or ws x 0) (λ x. get_or ws x 0 ≡ 0) c.find.ensures.ran (λ x q h. search (rules, tests)) (λ x q h. search (rules, tests)) in
    let none = subst (Found ws q) c.in_err-k.was found in
    rw (c.from_residual.ensures, ← c.self.view_is) (none_from ws q (λ w a b. none w a (omega (arith, c.self.told))))

pub place_of_lowest-requires : goal.place_of_lowest-requires
place_of_lowest-requires c =
    let ws = c.self.inside.words in
    let q = c.args.q in
    let found : Found ws q c.find.result = first_from_Range _ _ _ _ (λ x. 0 < get_or ws x 0) (λ x. get_or ws x 0 ≡ 0) c.find.ensures.ran (λ x q h. search (rules, tests)) (λ x q h. search (rules, tests)) in
    let some = subst (Found ws q) c.in_ok-k.was found in
    some.2

pub overflow_add-result : goal.overflow_add-result
overflow_add-result c =
    let ws = c.self.inside.words in
    let q = c.args.q in
    let found : Found ws q c.find.result = first_from_Range _ _ _ _ (λ x. 0 < get_or ws x 0) (λ x. get_or ws x 0 ≡ 0) c.find.ensures.ran (λ x q h. search (rules, tests)) (λ x q h. search (rules, tests)) in
    let some = subst (Found ws q) c.in_ok-k.was found in
    omega (arith, some.1, c.place_of_lowest.ensures.place)

pub returns : goal.returns
returns c =
    let ws = c.self.inside.words in
    let q = c.args.q in
    let found : Found ws q c.find.result = first_from_Range _ _ _ _ (λ x. 0 < get_or ws x 0) (λ x. get_or ws x 0 ≡ 0) c.find.ensures.ran (λ x q h. search (rules, tests)) (λ x q h. search (rules, tests)) in
    let some = subst (Found ws q) c.in_ok-k.was found in
    let p = c.place_of_lowest.ensures in
    rw (← c.self.view_is) (lowest_is ws q c.in_ok-k.k c.place_of_lowest.result some.0 some.3 p.place p.one p.below)
