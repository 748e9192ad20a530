-- Which replies belong to which act.
use Rattle.std.specs.Prelude.{◌≡◌, Bool, true, false, Option, Some}
use Rattle.engine_base.specs.declared.step.Act.{Act}
use Rattle.engine_base.specs.declared.step.Act.TheVariants as act
use Rattle.engine_base.specs.declared.step.Reply.{Reply}
use Rattle.engine_base.specs.declared.step.Reply.TheVariants as reply
use Rattle.engine_base.specs.declared.step.Step.{Step}

abbrev pub is_answer : Act → Reply → Bool
is_answer (act.Look k) (reply.Hit node) = true
is_answer (act.Look k) reply.Miss = true
is_answer (act.Offer s i) reply.Kept = true
is_answer (act.Offer s i) reply.Full = true
is_answer (act.Lose s i) reply.Lost = true
is_answer (act.Put k) (reply.Added node) = true
is_answer (act.Put k) (reply.Present node) = true
is_answer (act.Put k) reply.WritesFull = true
is_answer (act.Remove k) (reply.Removed node) = true
is_answer (act.Remove k) reply.Absent = true
is_answer (act.Remove k) reply.WritesFull = true
is_answer (act.AfterRead a) reply.Go = true
is_answer (act.AfterRead a) reply.Drain = true
is_answer act.AfterWrite reply.Go = true
is_answer act.AfterWrite reply.Drain = true
is_answer act.Begin reply.Began = true
is_answer act.Begin reply.Busy = true
is_answer (act.DrainRead s) (reply.Drained i) = true
is_answer (act.DrainRead s) reply.Empty = true
is_answer act.DrainWrite (reply.Applied i) = true
is_answer act.DrainWrite (reply.Cleared i) = true
is_answer act.DrainWrite reply.Empty = true
is_answer act.DrainWrite reply.Enough = true
is_answer act.Evict (reply.Shifted i) = true
is_answer act.Evict (reply.Evicted i) = true
is_answer act.Evict (reply.Rejected i) = true
is_answer act.Evict reply.Fits = true
is_answer act.End reply.Idle = true
is_answer act.End reply.Again = true
is_answer act.End reply.NotYet = true
is_answer _ _ = false

-- each reply of a machine is one that belongs to its act
abbrev pub AnswersItsActs : {D : Type 0} → (D → Step → Option (Reply × D)) → Type 0
AnswersItsActs {D} perform = (d e : D) (s : Step) (r : Reply) → perform d s ≡ Some (r, e) → is_answer s.act r ≡ true
