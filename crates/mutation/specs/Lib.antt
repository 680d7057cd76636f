-- The definitions, in reading order.

-- what is given, as the model sees it
pub mod Transactions
-- each limit as a plain fact
pub mod Limits
-- the first fault, as given and with the stamps in
pub mod Faults
-- numbers and names
pub mod Refusals
-- what an admitted transaction is seen as
pub mod Admitted
