-- How far the restart of a server has come, as tests.
use Rattle.std.specs.Prelude.{Bool, true, false, ◌||◌}
use Rattle.sm_place.specs.declared.server_state.ServerState.{ServerState}
use Rattle.sm_place.specs.declared.server_state.ServerState.TheVariants.{Up, Asked, Approved, Stopped, Failed}

-- whether it runs
abbrev pub is_up : ServerState → Bool
is_up Up = true
is_up state = false

-- whether its restart was asked for
abbrev pub is_asked : ServerState → Bool
is_asked Asked = true
is_asked state = false

-- whether its restart was approved
abbrev pub is_approved : ServerState → Bool
is_approved Approved = true
is_approved state = false

-- whether it was stopped
abbrev pub is_stopped : ServerState → Bool
is_stopped Stopped = true
is_stopped state = false

-- whether it failed
abbrev pub is_failed : ServerState → Bool
is_failed Failed = true
is_failed state = false

-- whether a server in this state is away by approval; a failed one is not
abbrev pub is_away : ServerState → Bool
is_away state = is_approved state || is_stopped state

-- whether it takes no more shards
abbrev pub is_leaving : ServerState → Bool
is_leaving state = is_away state || is_failed state

-- whether no requests reach it
abbrev pub is_unreached : ServerState → Bool
is_unreached state = is_stopped state || is_failed state
