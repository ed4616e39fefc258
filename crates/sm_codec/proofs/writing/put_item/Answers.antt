use Rattle.sm_codec.proofs.Batches.{item_joined}
use Rattle.sm_codec.proofs.writing.put_item.Goals as goal

pub returns : goal.returns
returns c = item_joined c.args.item.now c.mode_code-code.result c.mode_code-code.ensures c.args.out.now.items
    c.put_front.new.out.items c.push.new.self.items c.put_number.new.out.items c.put_string.new.out.items
    c.deref.result.now c.deref.ensures.value c.in_ok-put_front.ensures c.in_ok-push.ensures.items
    c.in_ok-put_number.ensures c.in_ok-put_string.ensures
