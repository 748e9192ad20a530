-- What the workers brought back from their places.
use Rattle.std.proofs.Common.{◌≡◌, ℕ, zero, suc, ◌+◌, ◌<◌, ◌≤◌, List, [], ◌∷◌, ◌++◌, map, length, get_or, length-append, Option, Some, None, refl, sym, ap, ◌∙◌, subst, arith}
use Rattle.std.specs.Prelude.{IfSome}
use Rattle.std.specs.Option.{IsSome}
use Rattle.std.proofs.lemmas.List.{append_assoc, append_cancel_left, append-nil}
use Rattle.std.proofs.lemmas.List.Elements.{filter-append}
use Rattle.engine_base.specs.History.{Entries}
use Rattle.shell_model.specs.Shell.{Step, Reply, Shell}
use Rattle.turn_book.specs.Turns.{Every, Begins}
use Rattle.turn_book.specs.Passes.{BookId, PassState, InOrder, OwnAll, Ends}
use Rattle.workers.specs.declared.run.WorkerState.{WorkerState}
use Rattle.workers.specs.declared.run.Cause.TheVariants.{Memory, JournalFull}
use Rattle.workers.specs.WorkerStates.{Call, Entry, ShellSession, HoldsPass, AreNumbered, HasWorked, entries_with}
use Rattle.shell_model.specs.WorkerEntries.{entries_of}
use Rattle.workers.specs.Runs.{Cause, IsRun, IsRunUpTo, AreWalksUpTo, IsCauseIn, first_cause}
use Rattle.workers.specs.Walkers.{WasRefused}

abbrev pub ShellPass : Type 0
ShellPass = PassState ShellSession (Entry Step Reply)

abbrev pub list_of : WorkerState → Entries
list_of d = entries_with d.pass

abbrev IsHis : BookId ShellSession → WorkerState → ShellPass → Type 0
IsHis b d p = (p.book ≡ b) × (p.worker ≡ d.worker)

-- the passes are those of the workers, in order
pub record Collected (b : BookId ShellSession) (lo : ℕ) (ds : List WorkerState) (ps : List ShellPass) : Type 0 where
  pub books : Every (λ p. p.book ≡ b) ps
  pub order : InOrder lo ps
  pub same : length ps ≡ length ds
  pub owns : map (λ p. p.own) ps ≡ map list_of ds

collected : (b : BookId ShellSession) (ds : List WorkerState) (ps : List ShellPass) (lo : ℕ) → map (λ p. Some p) ps ≡ map (λ d. d.pass) ds → Every (HoldsPass b) ds → AreNumbered lo ds → Collected b lo ds ps
collected b [] [] lo e h c = record { books = tt; order = tt; same = refl; owns = refl }
collected b [] (p ∷ ps) lo e h c = absurd (cc)
collected b (d ∷ ds) [] lo e h c = absurd (cc)
collected b (d ∷ ds) (p ∷ ps) lo e h c =
    let first : Some p ≡ d.pass = cc in
    let rest : map (λ p. Some p) ps ≡ map (λ d. d.pass) ds = cc in
    let fit : IsHis b d p = subst (λ o. IfSome o (IsHis b d)) (sym first) h.0.own in
    let r = collected b ds ps (suc lo) rest h.1 c.1 in
    record {
      books = (fit.0, r.books);
      order = (fit.1 ∙ c.0, r.order);
      same = ap suc r.same;
      owns = ap (λ o. entries_with o ∷ map (λ p. p.own) ps) first ∙ ap (λ ls. list_of d ∷ ls) r.owns;
    }

abbrev pub refusal_of : WorkerState → Option Cause
refusal_of d = d.refusal

pub every_map : {X : Type 0} (P Q : X → Type 0) (xs : List X) → ((x : X) → P x → Q x) → Every P xs → Every Q xs
every_map P Q [] f h = tt
every_map P Q (x ∷ xs) f h = (f x h.0, every_map P Q xs f h.1)

-- the passes of workers that have worked are theirs
pub came_back : (b : BookId ShellSession) (n : ℕ) (s : ShellSession) (calls : ℕ → List Call) (ds : List WorkerState) (ps : List ShellPass) → map (λ p. Some p) ps ≡ map (λ d. d.pass) ds
    → Every (λ d. HoldsPass b d × HasWorked n s calls d) ds → AreNumbered 0 ds → Collected b 0 ds ps
came_back b n s calls ds ps e h c = collected b ds ps 0 e (every_map _ _ ds (λ d h. h.0) h) c

-- workers that were given the passes of a book, in order, hold them
pub hold_passes : (b : BookId ShellSession) (Q : ShellPass → Type 0) (ds : List WorkerState) (ps : List ShellPass) (lo : ℕ) → map (λ d. d.pass) ds ≡ map (λ p. Some p) ps
    → InOrder lo ps → AreNumbered lo ds → Every (λ p. p.book ≡ b) ps → Every Q ps → Every (λ d. HoldsPass b d × IfSome d.pass Q) ds
hold_passes b Q [] ps lo e o c own fresh = tt
hold_passes b Q (d ∷ ds) [] lo e o c own fresh = absurd (cc)
hold_passes b Q (d ∷ ds) (p ∷ ps) lo e o c own fresh =
    let first : Some p ≡ d.pass = cc in
    let rest : map (λ d. d.pass) ds ≡ map (λ p. Some p) ps = cc in (
      (record { has = subst IsSome first refl; own = subst (λ x. IfSome x (IsHis b d)) first (own.0, o.0 ∙ sym c.0) }, subst (λ x. IfSome x Q) first fresh.0),
      hold_passes b Q ds ps (suc lo) rest o.1 c.1 own.1 fresh.1,
    )

pub every_both : {X : Type 0} (P Q R : X → Type 0) (xs : List X) → ((x : X) → P x → Q x → R x) → Every P xs → Every Q xs → Every R xs
every_both P Q R [] f h k = tt
every_both P Q R (x ∷ xs) f h k = (f x h.0 k.0, every_both P Q R xs f h.1 k.1)

-- what is said of each worker, its refusal and its list, by its number
made_at : (Q : ℕ → Option Cause → Entries → Type 0) (ds : List WorkerState) (lo : ℕ) → Every (λ d. Q d.worker d.refusal (list_of d)) ds → AreNumbered lo ds
    → (w : ℕ) → w < length ds → Q (lo + w) (get_or (map refusal_of ds) w None) (get_or (map list_of ds) w [])
made_at Q [] lo h c w lt = absurd (omega arith)
made_at Q (d ∷ ds) lo h c zero lt = subst (λ k. Q k d.refusal (list_of d)) (let e = c.0 in omega arith) h.0
made_at Q (d ∷ ds) lo h c (suc w) lt = subst (λ k. Q k (get_or (map refusal_of ds) w None) (get_or (map list_of ds) w [])) (omega arith) (made_at Q ds (suc lo) h.1 c.1 w (omega arith))

abbrev origin_of : ShellSession → Shell × ℕ
origin_of s = (s.opening, s.limit)

own_at : (ps : List ShellPass) (ls : List Entries) (lo : ℕ) (news : Entries) → map (λ p. p.own) ps ≡ ls → OwnAll origin_of (λ s. s.kept) (λ e. e.step.worker) (λ s. s.tail) lo ps news
    → (w : ℕ) → w < length ls → entries_of (lo + w) news ≡ get_or ls w []
own_at [] [] lo news e h w lt = absurd (omega arith)
own_at [] (l ∷ ls) lo news e h w lt = absurd (cc)
own_at (p ∷ ps) [] lo news e h w lt = absurd (cc)
own_at (p ∷ ps) (l ∷ ls) lo news e h zero lt = (let a : p.own ≡ l = cc in ap (λ k. entries_of k news) (omega arith) ∙ h.0 ∙ a)
own_at (p ∷ ps) (l ∷ ls) lo news e h (suc w) lt =
    let b : map (λ p. p.own) ps ≡ ls = cc in
    ap (λ k. entries_of k news) (omega arith) ∙ own_at ps ls (suc lo) news b h.1 w (omega arith)

length_map : {X Y : Type 0} (f : X → Y) (xs : List X) → length (map f xs) ≡ length xs
length_map f [] = refl
length_map f (x ∷ xs) = ap suc (length_map f xs)

-- the run, where each worker made what is said of it and its refusal
run_from : (Is : Option Cause → ℕ → List Call → Entries → Type 0) (pieces : List (List Call)) (o t : ShellSession) (ps : List ShellPass) (ds : List WorkerState)
    → Ends origin_of (λ s. s.kept) (λ e. e.step.worker) (λ s. s.tail) o ps t → map (λ p. p.own) ps ≡ map list_of ds → AreNumbered 0 ds → length ds ≡ length pieces
    → Every (λ d. Is d.refusal d.worker (get_or pieces d.worker []) (list_of d)) ds → IsRun (λ w. Is (get_or (map refusal_of ds) w None) w) pieces o t
run_from Is pieces o t ps ds ends owns counts same made =
    let many = length_map list_of ds in
    let seen = length_map (λ p. p.own) ps in
    let both = ap length owns in
    record {
      opening = ap (λ p. p.0) ends.same_origin;
      limit = ap (λ p. p.1) ends.same_origin;
      news = ends.news;
      entered = ends.list_is;
      tail = ends.undone_is;
      made = λ w lt. (
          let Q : ℕ → Option Cause → Entries → Type 0 = λ k r l. Is r k (get_or pieces k []) l in
          let at : 0 + w ≡ w = omega arith in
          let own : entries_of w ends.news ≡ get_or (map list_of ds) w [] = ap (λ k. entries_of k ends.news) (sym at) ∙ own_at ps (map list_of ds) 0 ends.news owns ends.own_is w (omega arith) in
          subst (Q w (get_or (map refusal_of ds) w None)) (sym own)
          (subst (λ k. Q k (get_or (map refusal_of ds) w None) (get_or (map list_of ds) w [])) at (made_at Q ds 0 made counts w (omega arith)))
          );
      no_other = λ w le. ends.no_other w (omega arith);
    }

-- why a worker was refused a step, in the run that all of them made
cause_in : (w limit : ℕ) (old news kept : Entries) (p : ShellPass) → p.worker ≡ w → entries_of w news ≡ p.own → kept ≡ old ++ news → length kept ≤ limit → Begins p.last kept
    → (r : Option Cause) → IfSome r (λ cause. WasRefused cause old limit p) → IfSome r (IsCauseIn w old news limit)
cause_in w limit old news kept p his own list room begins None h = tt
cause_in w limit old news kept p his own list room begins (Some JournalFull) h =
    let longer = ap length begins.1 in
    let parts = length-append p.last begins.0 in
    let same = ap length list in
    omega (arith, h, longer, parts, same, room)
cause_in w limit old news kept p his own list room begins (Some Memory) h =
    let made : news ≡ h.0 ++ begins.0 = append_cancel_left old news _ (sym list ∙ begins.1 ∙ ap (λ l. l ++ begins.0) h.1 ∙ append_assoc old h.0 begins.0) in
    let mine : entries_of w h.0 ≡ p.own = ap (λ k. entries_of k h.0) (sym his) ∙ h.2 in
    let after : p.own ++ entries_of w begins.0 ≡ p.own ++ [] =
    ap (λ l. l ++ entries_of w begins.0) (sym mine) ∙ sym (filter-append _ h.0 begins.0) ∙ ap (entries_of w) (sym made) ∙ own ∙ sym (append-nil p.own) in
    let below = h.3 in
    let last = ap length h.1 in
    (h.0, begins.0, made, append_cancel_left p.own _ [] after, omega (arith, below, last))

causes_in : (n lo : ℕ) (o : ShellSession) (calls : ℕ → List Call) (news kept : Entries) (ds : List WorkerState) (ps : List ShellPass) → map (λ p. Some p) ps ≡ map (λ d. d.pass) ds → Every (HasWorked n o calls) ds
    → Every (λ p. Begins p.last kept) ps → InOrder lo ps → OwnAll origin_of (λ s. s.kept) (λ e. e.step.worker) (λ s. s.tail) lo ps news → kept ≡ o.kept ++ news → length kept ≤ o.limit
    → (w k : ℕ) → k ≡ lo + w → IfSome (get_or (map refusal_of ds) w None) (IsCauseIn k o.kept news o.limit)
causes_in n lo o calls news kept [] ps e h s order own list room w k is = tt
causes_in n lo o calls news kept (d ∷ ds) [] e h s order own list room w k is = absurd (cc (e))
causes_in n lo o calls news kept (d ∷ ds) (p ∷ ps) e h s order own list room zero k is =
    let first : Some p ≡ d.pass = cc in
    let at : lo ≡ k = omega arith in
    cause_in k o.limit o.kept news kept p (order.0 ∙ at) (ap (λ j. entries_of j news) (sym at) ∙ own.0) list room s.0 d.refusal
    (subst (λ x. IfSome d.refusal (λ cause. IfSome x (WasRefused cause o.kept o.limit))) (sym first) h.0.refused)
causes_in n lo o calls news kept (d ∷ ds) (p ∷ ps) e h s order own list room (suc w) k is =
    let rest : map (λ p. Some p) ps ≡ map (λ d. d.pass) ds = cc in
    causes_in n (suc lo) o calls news kept ds ps rest h.1 s.1 order.1 own.1 list room w k (omega arith)

-- the run up to the steps that workers were refused
pub run_up_to : (n : ℕ) (cause : Option Cause) (pieces : List (List Call)) (o t : ShellSession) (ps : List ShellPass) (ds : List WorkerState)
    → Ends origin_of (λ s. s.kept) (λ e. e.step.worker) (λ s. s.tail) o ps t → InOrder 0 ps → length t.kept ≤ t.limit
    → map (λ p. Some p) ps ≡ map (λ d. d.pass) ds → map (λ p. p.own) ps ≡ map list_of ds → AreNumbered 0 ds → length ds ≡ length pieces
    → Every (HasWorked n o (λ w. get_or pieces w [])) ds → cause ≡ first_cause (map refusal_of ds) → IsRunUpTo cause n pieces o t
unfolding run_from
run_up_to n cause pieces o t ps ds ends order room passes owns counts same worked first =
    let limit : t.limit ≡ o.limit = ap (λ p. p.1) ends.same_origin in
    record {
      refusals = map refusal_of ds;
      of_each = length_map refusal_of ds ∙ same;
      first = first;
      run = run_from (λ r w. AreWalksUpTo r n w) pieces o t ps ds ends owns counts same (every_map _ _ ds (λ d h. h.walks) worked);
      refused = λ w. causes_in n 0 o _ ends.news t.kept ds ps passes worked ends.last_is order ends.own_is ends.list_is (omega (arith, room, limit)) w w (omega arith);
    }
