use Rattle.std.proofs.Common.{sym, ◌∙◌, arith}
use Rattle.shell_tests.proofs.copy_tests.a_session_is_copied_by_its_text.Goals as goal

pub assert_copied-requires : goal.assert_copied-requires
assert_copied-requires g c =
    let made = c.in_ok-make_miss.ensures in
    let few = made.few in
    let limit = made.limit in
    let three = c.in_ok-session.ensures.limit in
    let room = c.in_ok-copy.ensures.limit in
    record {
      alike = c.opened_alike.ensures _ c.in_ok-session.session.opening c.in_ok-copy.copy.opening c.in_ok-session.ensures.opened c.in_ok-copy.ensures.opened ∙ sym made.opening;
      kept = c.in_ok-copy.ensures.kept;
      tail = c.in_ok-copy.ensures.tail;
      room = omega (arith, few, limit, three, room);
    }
