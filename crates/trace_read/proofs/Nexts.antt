-- What a reading answers to a call for its next accesses.
use Rattle.std.proofs.Common.{true, false, ◌≡◌, ◌∙◌, ◌+◌, ◌-◌, ◌<◌, ◌≤◌, ◌++◌, ◌⊎◌, ℕ, Bool, List, [], length, length-append, length-drop, take, drop, drop-drop, Option, Some, None, Result, Ok, Err, inl, inr, arith, ap, subst, sym, refl}
use Rattle.std.proofs.Math.Seq.{take-add}
use Rattle.std.proofs.lemmas.Option.{IfSome_then}
use Rattle.std.specs.Prelude.{IfSome, IsErrAnd, if◌then◌else◌}
use Rattle.std.specs.Io.KnownBytes.{IsAtEnd}
use Rattle.streams.proofs.Tallies.{further, later, served, unspent}
use Rattle.streams.specs.GivenBytes.{ReadAtMost}
use Rattle.streams.specs.Tally.{Exhausts, FailsWhere, Spends}
use Rattle.streams.specs.declared.tally.Tally.{Tally}
use Rattle.streams.specs.declared.retry_budget.TheConstants.{INTERRUPTIONS}
use Rattle.trace_read.proofs.Given.{none_pending}
use Rattle.trace_read.proofs.Readings.{both, fails_as, given_then, handed_fault, handed_on, none_in, none_read, nothing_ahead, read_at_end, read_on, since_some, since_then, spent_only}
use Rattle.trace_read.specs.Pending.{Pending, pending_count, pending_keys}
use Rattle.trace_read.specs.Reading.{HasGiven, IsAhead, IsFilled, IsNextGiven, IsReading, Reading, given_by, rest_of}
use Rattle.trace_read.specs.ReadTrace.{IsReadWithin, IsWhollyRead}
use Rattle.trace_read.specs.ScanState.{Scan, IsScan, fault_ahead, keys_ahead}
use Rattle.trace_read.specs.TraceText.{Format, TraceFault, fault_within, keys_in, IsOfLine}
use Rattle.trace_read.specs.declared.fault.TraceFault.TheVariants.{OutOfMemory, Read, TooLarge}
use Rattle.trace_read.specs.declared.limits.Limits.{Limits}

-- no byte is left
pub nothing_left : (r : Reading) {now : Option (List ℕ)} {xs : List ℕ} → IsAtEnd now → r.at ≡ r.end → now ≡ Some xs
    → rest_of r ++ xs ≡ []
nothing_left r {xs = xs} end all at =
    ap (λ l. l ++ xs) (none_in r.at r.end r.chunk (omega (arith, all))) ∙ subst IsAtEnd at end

module _ {limits : Limits} {format : Format} {old now : Option (List ℕ)} {before after : Tally} {n : ℕ} {r : Reading}
    (has : HasGiven limits format old now before after n r) where
  -- what holds of the limits of the reading holds of these
  asked : (P : Limits → Format → ℕ → Type 0) → P r.limits r.format (given_by r) → P limits format n
  asked P is = subst (λ l. P l format n) has.same_limits
      (subst (λ f. P r.limits f n) has.same_format (subst (P r.limits r.format) has.count is))

  -- bytes were read, and nothing was taken
  pub filled : {mid : Option (List ℕ)} {tally : Tally} {new : Reading} → IsFilled r new
      → IsReading old mid before tally new → HasGiven limits format old mid before tally n new
  filled same reading = record {
    same_limits = same.limits ∙ has.same_limits;
    same_format = same.format ∙ has.same_format;
    count = omega (arith, ap (λ s. s.handed_on) same.scan, ap pending_count same.run, has.count);
    reading = reading;
  }

  -- what is ahead of this scan and run behind a place is what was, but for the accesses that were given
  abbrev IsLeft : Scan → Pending → ℕ → List ℕ → List ℕ → Type 0
  IsLeft scan run at keys xs =
      let rest = take (r.end - at) (drop at r.chunk) ++ xs in
      (fault_ahead scan rest ≡ fault_ahead r.scan (rest_of r ++ xs))
      × (keys ++ (pending_keys run ++ keys_ahead scan rest) ≡ pending_keys r.run ++ keys_ahead r.scan (rest_of r ++ xs))

  -- these accesses were given
  pub gave : (scan : Scan) (run : Pending) (at : ℕ) (is_at_end : Bool) (keys : List ℕ) → IsScan scan
      → scan.keys.items ≡ [] → scan.max_accesses ≡ r.scan.max_accesses
      → scan.handed_on + pending_count r.run ≡ r.scan.handed_on + length keys + pending_count run → at ≤ r.end
      → scan.line + (r.end - at) + r.pieces.room ≤ r.limits.bytes + (if is_at_end then 2 else 1)
      → ((xs : List ℕ) → now ≡ Some xs → IsLeft scan run at keys xs)
      → (is_at_end ≡ true → IsAtEnd now × (at ≡ r.end) × (scan.partial_line.items ≡ []))
      → IsNextGiven limits format old now before after n keys
      (record r { scan = scan; run = run; at = at; is_at_end = is_at_end }) (Ok true)
  gave scan run at is_at_end keys kept none limit count order lines same ended =
      let was = has.reading in
      let more : Reading = record r { scan = scan; run = run; at = at; is_at_end = is_at_end } in
      let sum : scan.handed_on - pending_count run ≡ given_by r + length keys = omega (arith, count, was.pending) in
      let ahead = since_then old now was.since (λ bytes xs here a.
      let next = given_then keys _ (keys_in r.format bytes) _ _ ((same xs here).1 ∙ a.keys) a.given sum in
      let left : IsAhead r.limits r.format scan run r.pieces.room (rest_of more) bytes xs =
      record { count = a.count; fault = (same xs here).0 ∙ a.fault; keys = next.0; given = next.1 } in
      (left, next.2)) in
      asked (λ l f m. IsNextGiven l f old now before after m keys more (Ok true)) (record {
        goes_on = record {
          same_limits = refl;
          same_format = refl;
          count = sum;
          reading = record {
            scan = kept;
            none = none;
            pending = omega (arith, count, was.pending);
            place = (order, was.place.1);
            lines = lines;
            room = was.room;
            bytes = was.bytes;
            accesses = was.accesses;
            limit = limit ∙ was.limit;
            since = ahead.0;
            spent = was.spent;
            ended = ended;
          };
        };
        gives = record { next = ahead.1; last = λ no. absurd (cc no) };
        few = omega (arith, sum, kept.few, limit, was.limit);
        none = λ q. absurd (cc q);
        end = λ q. absurd (q refl);
        tally = spent_only r.pieces.budget (λ q. absurd (cc q)) was.spent;
      })

  -- nothing is left
  pub gave_all : (keys : List ℕ) → keys ≡ [] → r.is_at_end ≡ true → pending_count r.run ≡ 0
      → IsNextGiven limits format old now before after n keys r (Ok false)
  gave_all keys none at_end empty =
      let was = has.reading in
      let end = was.ended at_end in
      let over = nothing_ahead r.scan was.scan end.2 was.none in
      let all : IfSome old (λ b. (length b ≤ r.limits.bytes) × (fault_within r.limits.accesses r.format b ≡ None)
      × (given_by r + 0 ≡ length (keys_in r.format b))) = since_some old now was.since (λ b xs here a.
      let left = nothing_left r end.0 end.1 here in
      let nothing : drop (given_by r) (keys_in r.format b) ≡ [] = cc (a.keys, none_pending r.run empty, left, over.1) in
      let last : xs ≡ [] = subst IsAtEnd here end.0 in (
        omega (arith, a.count, ap length last),
        cc (a.fault, left, over.0),
        omega (arith, ap length nothing, length-drop (given_by r) (keys_in r.format b), a.given),
      )) in
      subst (λ k. IsNextGiven limits format old now before after n k r (Ok false)) (sym none)
      (asked (λ l f m. IsNextGiven l f old now before after m [] r (Ok false)) (record {
        goes_on = record { same_limits = refl; same_format = refl; count = omega arith; reading = was };
        gives = record { next = IfSome_then old all (λ b e. refl); last = λ q. IfSome_then old all (λ b e. e.2) };
        few = omega (arith, was.scan.few, was.limit);
        none = λ q. refl;
        end = λ q. record {
          ok = IfSome_then old all (λ b e. (e.0, e.1));
          end = end.0;
          faulty = tt;
          all = tt;
          large = λ q. absurd (cc q);
          within = λ q. read_on r.limits r.format r.scan r.run r.pieces.room (rest_of r) old now now was.since
              (none_read r.pieces.room now);
        };
        tally = spent_only r.pieces.budget (λ q. absurd (cc q)) was.spent;
      }))

  -- with the first bytes that are left a line is faulty
  abbrev IsFaulty : TraceFault → Type 0
  IsFaulty e =
      (xs : List ℕ) → now ≡ Some xs → (length xs ≤ r.pieces.room) × (fault_ahead r.scan (rest_of r ++ xs) ≡ Some e)

  module _ {last : Option (List ℕ)} {tally : Tally} {keys : List ℕ} {more : Reading} (result : Result Bool TraceFault)
      (e : TraceFault) (same : IsErrAnd result (λ y. y ≡ e)) where
    -- it could not be filled
    pub unfilled : IsReadWithin {T = Bool} r.limits r.format old last (Err e)
        → FailsWhere (◌≡◌ {A = Result Bool TraceFault} (Err e) (Err Read)) before tally
        → IsNextGiven limits format old last before tally n keys more result
    unfilled read calls = handed_fault result e (IsNextGiven limits format old last before tally n keys more) same
        (asked (λ l f m. IsNextGiven l f old last before tally m keys more (Err e))
        (record { goes_on = tt; gives = tt; few = tt; none = λ q. absurd (cc q); end = λ q. read; tally = calls }))

    -- it fails, maybe behind bytes that were only counted
    pub fails : (left : ℕ) → (IsOfLine e → IsFaulty e × IsAtEnd last)
        → (e ≡ TooLarge → IfSome now (λ xs. r.pieces.room < length xs))
        → ((e ≡ TooLarge → ⊥) → ReadAtMost r.pieces.room now last)
        → ((e ≡ Read → ⊥) → Spends r.pieces.budget left after tally) → (e ≡ Read → Exhausts r.pieces.budget after tally)
        → IsNextGiven limits format old last before tally n keys more result
    fails left line large passed spent gone =
        let was = has.reading in
        unfilled (record {
          ok = tt;
          end = tt;
          faulty = λ is. since_some old now was.since (λ bytes xs at a.
              let here = (line is).0 xs at in (omega (arith, a.count, here.0), sym a.fault ∙ here.1));
          all = λ is. (line is).1;
          large = λ q. since_some old now was.since (λ bytes xs at a.
              let many = subst (λ o. IfSome o (λ l. r.pieces.room < length l)) at (large (cc q)) in
              omega (arith, a.count, many));
          within = λ q. read_on r.limits r.format r.scan r.run r.pieces.room (rest_of r) old now last was.since
              (passed (λ p. q (ap Err p)));
        }) (record {
          failing = λ q. later INTERRUPTIONS r.pieces.budget before after tally was.spent (gone (cc q));
          served = λ q. served left before tally
              (further INTERRUPTIONS r.pieces.budget left before after tally was.spent (spent (λ p. q (ap Err p))));
        })

    -- out of memory, or a line is faulty
    pub stopped : (left : ℕ) → (e ≡ OutOfMemory) ⊎ (IsOfLine e × IsFaulty e × IsAtEnd last)
        → ReadAtMost r.pieces.room now last → Spends r.pieces.budget left after tally
        → IsNextGiven limits format old last before tally n keys more result
    stopped left (inl memory) passed spent = fails left (λ is. absurd (subst IsOfLine memory is))
        (λ q. absurd (cc (memory, q))) (λ q. passed) (λ q. spent) (λ q. absurd (cc (memory, q)))
    stopped left (inr line) passed spent = fails left (λ is. (line.1, line.2))
        (λ q. absurd (subst IsOfLine q line.0)) (λ q. passed) (λ q. spent) (λ q. absurd (subst IsOfLine q line.0))

-- what `next` comes to is what the whole reading does
module _ {limits : Limits} {format : Format} {old now : Option (List ℕ)} {before after : Tally} {n : ℕ} {r : Reading}
    {T : Type 0} where
  pub failed : {last : Option (List ℕ)} {tally : Tally} {keys : List ℕ} {more : Reading} {e : TraceFault}
      → HasGiven limits format old now before after n r
      → ((l : Limits) (f : Format) (o : Option (List ℕ)) (b : Tally) (m : ℕ) → HasGiven l f o now b after m r
      → IsNextGiven l f o last b tally m keys more (Err e)) → (result : Result T TraceFault)
      → IsErrAnd result (λ y. y ≡ e) → IsWhollyRead limits format old last before tally result
  failed {e = e} has next result same =
      let is = next _ _ _ _ _ has in handed_on result e same (is.end (λ q. absurd (cc q))) is.tally

  pub ended : {keys : List ℕ} (v : T) (more : Bool) → more ≡ false
      → IsNextGiven limits format old now before after n keys r (Ok more)
      → IsWhollyRead {T = T} limits format old now before after (Ok v)
  ended v more none is = record {
    read = read_at_end more v (is.end (λ q. absurd (cc (q, none))));
    tally = fails_as (λ q. absurd (cc q)) (λ q. absurd (cc q)) is.tally;
  }

  -- the caller gives up
  pub gave_up : HasGiven limits format old now before after n r → (result : Result T TraceFault)
      → IsErrAnd result (λ y. y ≡ OutOfMemory) → IsWhollyRead limits format old now before after result
  gave_up has result same = failed {keys = []} {more = r} has (λ l f o b m is.
      stopped is (Err OutOfMemory) OutOfMemory refl r.pieces.budget (inl refl)
      (none_read r.pieces.room now) (unspent r.pieces.budget after)) result same

-- accesses are kept behind those before them
pub kept_on : (old : Option (List ℕ)) (format : Format) (place n : ℕ) (was keys all : List ℕ) → n ≡ place + length was
    → all ≡ was ++ keys → IfSome old (λ b. was ≡ take (length was) (drop place (keys_in format b)))
    → IfSome old (λ b. keys ≡ take (length keys) (drop n (keys_in format b)))
    → IfSome old (λ b. all ≡ take (length all) (drop place (keys_in format b)))
kept_on old format place n was keys all behind is first next = both old first next (λ b f k.
    let rest = drop place (keys_in format b) in
    let later : drop n (keys_in format b) ≡ drop (length was) rest = rw behind (sym (drop-drop (length was) place _)) in
    is ∙ ap (λ l. l ++ keys) f ∙ ap (λ l. take (length was) rest ++ l) (k ∙ ap (take (length keys)) later)
    ∙ sym (take-add (length was) (length keys) rest)
    ∙ ap (λ m. take m rest) (sym (ap length is ∙ length-append was keys)))
