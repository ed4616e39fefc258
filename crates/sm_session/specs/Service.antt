-- The sample service.
use Rattle.sm_body.specs.Service.{Meaning}
use Rattle.sm_service.specs.Service.{reply_after, key_of_request}
use Rattle.sm_service.specs.declared.reply.Reply.{Reply}
use Rattle.sm_service.specs.declared.request.Request.{Request}

-- the meaning of the sample service
abbrev pub counter_text : Meaning Request Reply
counter_text = record { reply_of = reply_after; key_of = key_of_request }
