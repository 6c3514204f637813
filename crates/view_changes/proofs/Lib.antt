pub mod SeatPlaces
