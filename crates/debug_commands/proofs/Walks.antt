-- A session at a place of its steps.
use Rattle.std.proofs.Common.{◌≡◌, ◌∙◌, ◌+◌, ◌-◌, ℕ, zero, suc, Bool, false, Some, Result, Ok, Err, [], ◌∷◌, ◌++◌, length, take, refl, ap, sym, arith}
use Rattle.std.specs.Prelude.{is_err, nat_lt, slice_get, OnOk}
use Rattle.engine_base.specs.History.{data_after, Entries}
use Rattle.shell_model.specs.Shell.{Step, Reply, Shell, act}
use Rattle.debug_commands.specs.Replay.{Entry, entry_facts, step_facts, halves_on_step, state_at}

get_take : (n : ℕ) (steps : Entries) (e : Entry Step Reply) → slice_get (take (suc n) steps) n ≡ Some e → slice_get steps n ≡ Some e
get_take n [] e h = absurd (cc h)
get_take zero (x ∷ steps) e h = h
get_take (suc n) (x ∷ steps) e h = get_take n steps e h

front : (kept tail : Entries) → take (length kept) (kept ++ tail) ≡ kept
front [] tail = refl
front (e ∷ es) tail = ap (λ t. e ∷ t) (front es tail)

-- where the first entries are applied, the state is what they lead to
pub stands_here : (opening x : Shell) (kept tail : Entries) → x ≡ data_after act opening kept → x ≡ state_at opening (kept ++ tail) (length kept)
stands_here opening x kept tail e = e ∙ ap (data_after act opening) (sym (front kept tail))

pub stands_there : (opening from x : Shell) (kept steps : Entries) (n : ℕ) → from ≡ opening → kept ≡ take (n + 1) steps → x ≡ data_after act from kept
    → x ≡ state_at opening steps (n + 1)
stands_there opening from x kept steps n same k e = e ∙ ap (λ o. data_after act o kept) same ∙ ap (data_after act opening) k

pub facts_are : (opening before now : Shell) (kept steps : Entries) (n place : ℕ) (e : Entry Step Reply) (halved : Bool) → before ≡ state_at opening steps n
    → now ≡ state_at opening steps (n + 1) → halved ≡ nat_lt now.frequency.age before.frequency.age → kept ≡ take (n + 1) steps → place ≡ n
    → slice_get kept place ≡ Some e → step_facts e.step.act e.reply halved ≡ entry_facts (slice_get steps (n + 1 - 1)) (halves_on_step opening steps (n + 1))
facts_are opening before now kept steps n place e halved b a h k at got =
    let one : n ≡ n + 1 - 1 = omega arith in
    let next : n + 1 ≡ suc n = omega arith in
    let there : slice_get (take (suc n) steps) n ≡ Some e = ap (λ m. slice_get (take m steps) n) (sym next) ∙ ap (λ es. slice_get es n) (sym k) ∙ ap (slice_get kept) (sym at) ∙ got in
    let found : slice_get steps (n + 1 - 1) ≡ Some e = ap (slice_get steps) (sym one) ∙ get_take n steps e there in
    let fell : halved ≡ halves_on_step opening steps (n + 1) =
    h ∙ ap (λ (x : Shell). nat_lt x.frequency.age before.frequency.age) a
    ∙ ap (λ (x : Shell). nat_lt (state_at opening steps (n + 1)).frequency.age x.frequency.age) (b ∙ ap (state_at opening steps) one) in
    ap (step_facts e.step.act e.reply) fell ∙ ap (λ o. entry_facts o (halves_on_step opening steps (n + 1))) (sym found)

-- what holds of a call that did not fail
pub ok_on : {E : Type 0} (r : Result (Unit {0}) E) (P : Type 0) → is_err r ≡ false → OnOk r P → P
ok_on (Ok u) P e h = h
ok_on (Err x) P e h = absurd (cc e)
