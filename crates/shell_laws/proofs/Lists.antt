-- Lists of items by how often each stands in them.
use Rattle.std.proofs.Common.{◌≡◌, ◌+◌, ◌≤◌, cond, List, [], ◌∷◌, length, ap, refl, arith, inl, inr}
use Rattle.std.proofs.lemmas.Bool.{cases_Bool}
use Rattle.segments.specs.Items.{Item, is_same_item, occurrences, items_without}
use Rattle.segments.proofs.QueueLists.{same-refl, same-true, length-without}
use Rattle.shell_model.specs.declared.task.Task.TheVariants.{Add, Update, Remove}
use Rattle.shell_model.specs.declared.task.Task.{Task}
use Rattle.shell_model.specs.Consistency.{waiting_adds, leaving}
use Rattle.replacement.proofs.Counting.{unless-same}
use Rattle.shell_laws.specs.Capacity.{items_added, items_removed}

-- a list of different items is no longer than one that has them all
pub no-longer : (xs ys : List Item) → ((i : Item) → occurrences i xs ≤ 1) → ((i : Item) → occurrences i xs ≤ occurrences i ys) → length xs ≤ length ys
no-longer [] ys once among = omega arith
no-longer (x ∷ xs) ys once among =
    let one : 1 + occurrences x xs ≤ 1 = (let o = once x in rw (same-refl x) at o) in
    let there : 1 + occurrences x xs ≤ occurrences x ys = (let a = among x in rw (same-refl x) at a) in
    let rest : length xs ≤ length (items_without x ys) = no-longer xs (items_without x ys)
    (λ i. let o = once i in omega (arith, o))
    (λ i. rw (unless-same i x ys) (elim (cases_Bool (is_same_item i x)) as (λ _. occurrences i xs ≤ cond (is_same_item i x) 0 (occurrences i ys)) [
      | inl e ↦ (let t : i ≡ x = same-true i x e in let n : occurrences i xs ≡ occurrences x xs = ap (λ j. occurrences j xs) t in rw e (omega (arith, n, one)))
      | inr e ↦ (let a = among i in rw e (omega (arith, a)))
    ])) in
    omega (arith, rest, there, length-without x ys)

pub times-added : (i : Item) (ts : List Task) → occurrences i (items_added ts) ≡ waiting_adds i ts
times-added i [] = refl
times-added i (Add j ∷ ts) = ap (λ n. cond (is_same_item i j) 1 0 + n) (times-added i ts)
times-added i (Update j ∷ ts) = times-added i ts
times-added i (Remove j ∷ ts) = times-added i ts

pub times-removed : (i : Item) (ts : List Task) → occurrences i (items_removed ts) ≡ leaving i ts
times-removed i [] = refl
times-removed i (Add j ∷ ts) = times-removed i ts
times-removed i (Update j ∷ ts) = times-removed i ts
times-removed i (Remove j ∷ ts) = ap (λ n. cond (is_same_item i j) 1 0 + n) (times-removed i ts)

pub few-added : (ts : List Task) → length (items_added ts) ≤ length ts
few-added [] = omega arith
few-added (Add j ∷ ts) = let h = few-added ts in omega (arith, h)
few-added (Update j ∷ ts) = let h = few-added ts in omega (arith, h)
few-added (Remove j ∷ ts) = let h = few-added ts in omega (arith, h)
