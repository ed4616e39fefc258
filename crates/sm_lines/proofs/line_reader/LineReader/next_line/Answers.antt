use Rattle.std.proofs.Common.{sym, ◌∙◌, ap}
use Rattle.std.proofs.lemmas.Bool.{false≢true}
use Rattle.sm_lines.proofs.LineLemmas.{least_failed, no_feed, orderly_filled, reads_filled, so_far_all, so_far_filled}
use Rattle.sm_lines.proofs.LineLemmas.{so_far_none, so_far_part, took_at_end, took_at_feed}
use Rattle.sm_lines.proofs.line_reader.LineReader.next_line.Goals as goal

pub pieces-init : goal.pieces-init
pieces-init g c =
    let begun = c.begin_line.ensures in
    record {
      so_far = so_far_none c.args.self.now c.begin_line.new.self c.args.limit
          (record { piece = begun.piece; came = begun.came; end = begun.end }) begun.begun;
      unfailed = ap (λ r. r.failed) begun.begun;
      same_end = ap (λ r. r.ended) begun.begun;
      held = λ _. (
        ap (λ r. r.held) begun.begun,
        (ap (λ r. r.left) begun.begun, ap (λ r. r.ended) begun.begun, ap (λ r. r.calls) begun.begun),
      );
    }

pub returns-in-Some-clause-took : goal.returns-in-Some-clause-took
returns-in-Some-clause-took g c =
    let feed = c.in-Some.ensures.some in
    let line = c.in_ok-end_line-in-Some.ensures in
    took_at_feed c.in_ok-end_line-in-Some.field-0 c.end_line.new.self c.in-Some.n c.pieces.invariant.so_far feed.0
    feed.1 feed.2 line.ok line.line line.long_line line.some

pub pieces-preserved : goal.pieces-preserved
pieces-preserved g c =
    let before = c.pieces.invariant in
    let took = c.in_ok-is_long-in-None.ensures in
    let read = c.in-Ok-true.ensures in
    let more = read.more c.in-Ok-true.field-0-test in
    let all = so_far_all c.take_held.new.self before.so_far c.in-None.ensures.none took.ok
    c.in_ok-is_long-in-None.is_long took.long took.short in
    let orderly = orderly_filled c.fill.new.self c.take_held.new.self.calls read.most read.piece
    (λ is. absurd (false≢true (sym more.3 ∙ is))) in
    let call = reads_filled c.take_held.new.self c.fill.new.self c.fill.new.self.ended all.reads.after
    (ap (λ r. r.held) took.ok) read.bytes read.least read.most
    (λ is. absurd (false≢true (sym more.4 ∙ is))) read.past_end orderly in
    record {
      so_far = so_far_filled c.fill.new.self all read.line call;
      unfailed = more.2 ∙ ap (λ r. r.failed) took.ok ∙ before.unfailed;
      same_end = more.3 ∙ sym more.4 ∙ ap (λ r. r.ended) took.ok ∙ before.same_end;
      held = λ is. absurd (no_feed is (before.held is).0 c.in-None.ensures.none);
    }

pub returns-in-Ok-false-clause-took : goal.returns-in-Ok-false-clause-took
returns-in-Ok-false-clause-took g c =
    let took = c.in_ok-is_long-in-None.ensures in
    let read = c.in-Ok-false.ensures in
    let end = read.end c.in-Ok-false.field-0-test in
    let last = c.last_line.ensures in
    let all = so_far_all c.take_held.new.self c.pieces.invariant.so_far c.in-None.ensures.none took.ok
    c.in_ok-is_long-in-None.is_long took.long took.short in
    let orderly = orderly_filled c.fill.new.self c.take_held.new.self.calls read.most read.piece (λ _. (end.0, end.1))
    in
    let call = reads_filled c.take_held.new.self c.fill.new.self c.fill.new.self.ended all.reads.after
    (ap (λ r. r.held) took.ok) read.bytes read.least read.most
    (λ is. (ap (λ r. r.left) (end.4 is), ap (λ r. r.ended) (end.4 is), ap (λ r. r.calls) (end.4 is))) read.past_end
    orderly in
    took_at_end c.last_line.result (so_far_filled c.fill.new.self all read.line call) end.2 last.line last.long last.end

pub returns-in-Err-clause-stopped : goal.returns-in-Err-clause-stopped
returns-in-Err-clause-stopped g c = λ _.
    let before = c.pieces.invariant in
    let took = c.in_ok-is_long-in-None.ensures in
    let read = c.in-Err.ensures in
    let failed = read.err in
    let all = so_far_all c.take_held.new.self before.so_far c.in-None.ensures.none took.ok
    c.in_ok-is_long-in-None.is_long took.long took.short in
    let orderly = orderly_filled c.fill.new.self c.take_held.new.self.calls read.most read.piece
    (λ is. absurd (false≢true (sym failed.2 ∙ is))) in
    let call = reads_filled c.take_held.new.self c.fill.new.self _ all.reads.after (ap (λ r. r.held) took.ok)
    read.bytes (least_failed c.take_held.new.self c.fill.new.self failed.1 read.last) read.most
    (λ is. absurd (false≢true (sym failed.1 ∙ is))) read.past_end orderly in
    record {
      part = so_far_part c.fill.new.self _ all call;
      unseen = sym (ap (λ r. r.ended) took.ok ∙ before.same_end) ∙ failed.1;
      none_held = failed.0;
      why = failed.4;
    }
