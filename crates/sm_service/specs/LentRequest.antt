-- The request that lent parts make.
use Rattle.sm_service.specs.declared.request.Request.{Request}
use Rattle.sm_service.specs.declared.request.Request.TheVariants.{Get, Put, Inc, Append, Del, Scan}
use Rattle.sm_service.specs.declared.lent_request.LentRequest.{LentRequest}
use Rattle.sm_service.specs.declared.lent_request.LentRequest.TheVariants.{Get as LentGet, Put as LentPut}
use Rattle.sm_service.specs.declared.lent_request.LentRequest.TheVariants.{Inc as LentInc, Append as LentAppend}
use Rattle.sm_service.specs.declared.lent_request.LentRequest.TheVariants.{Del as LentDel, Scan as LentScan}

-- the request that these parts make
abbrev pub request_lent : LentRequest → Request
request_lent (LentGet key) = Get key.now
request_lent (LentPut key text) = Put key.now text.now
request_lent (LentInc key amount) = Inc key.now amount
request_lent (LentAppend key tail) = Append key.now tail.now
request_lent (LentDel key) = Del key.now
request_lent (LentScan low high most) = Scan low.now high.now most
