mod Noting
mod Walking
mod Functions
